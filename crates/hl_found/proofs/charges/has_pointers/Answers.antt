use Rattle.std.proofs.Common.{◌<◌, not, length, map, sym, ap, ◌∙◌, arith}
use Rattle.std.proofs.lemmas.List.{get_or-map, length-map}
use Rattle.hl_placed.specs.Blocks.{Block, Hole, is_hole}
use Rattle.hl_nodes.specs.declared.found.FoundBlock.TheVariants as found
use Rattle.hl_nodes.specs.Found.{block_found}
use Rattle.hl_found.proofs.ChargesFound.{any_from, none_from}
use Rattle.hl_found.proofs.charges.has_pointers.Goals as goal

pub returns-then-not-is_hole : goal.returns-then-not-is_hole
returns-then-not-is_hole c =
    let size = length-map c.args.blocks.now block_found in
    sym (any_from (λ block. not (is_hole block)) 12 (map block_found c.args.blocks.now) c.each.i c.each.auto.i (omega (arith, c.each-test.true))
    (ap (λ (b : Block). not (is_hole b)) (get_or-map block_found c.args.blocks.now c.each.i c.index-blocks-i.result Hole c.each-test.true ∙ ap block_found (sym c.index-blocks-i.is))
    ∙ ap not (sym c.is_hole.ensures ∙ c.if-not-is_hole.true)))

pub returns : goal.returns
returns c =
    let size = length-map c.args.blocks.now block_found in
    sym (none_from (λ block. not (is_hole block)) 12 (map block_found c.args.blocks.now) (λ i low lt.
    let own : i < length c.args.blocks.now = omega arith in
    ap (λ (b : Block). not (is_hole b)) (get_or-map block_found c.args.blocks.now i found.Hole Hole own)
    ∙ ap not (c.each.invariant i found.Hole low (omega (arith, c.each-test.false)))))
