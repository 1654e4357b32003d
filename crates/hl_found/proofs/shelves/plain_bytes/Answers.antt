use Rattle.std.proofs.Common.{◌≡◌, ℕ, ◌/◌, ◌%◌, List, [], ◌∷◌, ◌++◌, sym, ap, ◌∙◌, arith}
use Rattle.hl_placed.specs.Blocks.{byte_of, file_block, listed, plain_bytes}
use Rattle.hl_nodes.specs.Found.{node_found}
use Rattle.hl_found.specs.Shelves.{at_hand}
use Rattle.hl_found.proofs.ShelvesFound.{listed_more}
use Rattle.hl_found.proofs.shelves.plain_bytes.Goals as goal

pub each-preserved : goal.each-preserved
each-preserved c =
    let f : ℕ → ℕ = λ j. byte_of (at_hand c.args.staged.now c.args.shelf.now) (file_block (node_found c.args.node.now).content (j / 4096)) (j % 4096) in
    c.in_ok-push.ensures.items ∙ ap (λ (l : List ℕ). l ++ c.node_byte.result ∷ []) c.each.invariant
    ∙ ap (λ (b : ℕ). listed c.each.j f ++ b ∷ []) c.node_byte.ensures ∙ sym (listed_more c.each.j f)

pub returns : goal.returns
unfolding plain_bytes
returns c =
    let f : ℕ → ℕ = λ j. byte_of (at_hand c.args.staged.now c.args.shelf.now) (file_block (node_found c.args.node.now).content (j / 4096)) (j % 4096) in
    let end : c.each.j ≡ c.args.node.now.size = omega (arith, c.each-test.false, c.each.auto.j-end) in
    c.each.invariant ∙ ap (λ (n : ℕ). listed n f) end
