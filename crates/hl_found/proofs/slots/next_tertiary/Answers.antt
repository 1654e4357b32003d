use Rattle.std.proofs.Common.{◌≤◌, ap, ◌∙◌, arith, length}
use Rattle.std.specs.List.{fold}
use Rattle.std.proofs.lemmas.List.{take_all}
use Rattle.hl_image.specs.declared.chain.ChainPart.{ChainPart}
use Rattle.std.specs.Prelude.{ℕ, List}
use Rattle.hl_nodes.specs.Tables.{raised}
use Rattle.hl_found.proofs.SlotsPossible.{parts_raise}
use Rattle.hl_found.proofs.slots.next_tertiary.Goals as goal

pub returns : goal.returns
returns c =
    let items = c.args.found.now.chain.items in
    let le : length items ≤ c.parts.part-index = omega (arith, ap length c.as_slice-part-items.ensures.value, c.parts-test.false) in
    c.parts.invariant
    ∙ ap (λ (l : List ChainPart). fold (λ (n : ℕ) (p : ChainPart). fold raised n p.summary.tables) c.args.found.now.rec.tseg_serial l) (take_all c.parts.part-index items le)
    ∙ parts_raise c.args.found.now.rec.tseg_serial items
