use Rattle.std.proofs.Common.{◌≤◌, ℕ, List, ap, ◌∙◌, arith, length}
use Rattle.std.specs.List.{fold}
use Rattle.std.proofs.lemmas.List.{take_all}
use Rattle.hl_image.specs.declared.chain.ChainPart.{ChainPart}
use Rattle.hl_nodes.specs.Tables.{raised}
use Rattle.hl_found.proofs.SlotsPossible.{parts_raise}
use Rattle.hl_recovery.proofs.covered.raised_behind.Goals as goal

pub returns : goal.returns
returns c =
    let chain = c.args.chain.now in
    let le : length chain ≤ c.parts.part-index = omega (arith, c.parts-test.false) in
    c.parts.invariant
    ∙ ap (λ (l : List ChainPart). fold (λ (n : ℕ) (p : ChainPart). fold raised n p.summary.tables) c.args.next l) (take_all c.parts.part-index chain le)
    ∙ parts_raise c.args.next chain
