use Rattle.std.proofs.Common.{◌≡◌, ⊎_elim, refl, sym, ap, ◌∙◌, arith}
use Rattle.std.proofs.lemmas.Bool.{cases_lt}
use Rattle.hl_placed.specs.Blocks.{Away, Hole, file_block}
use Rattle.hl_nodes.specs.Found.{node_found}
use Rattle.hl_found.proofs.NodeBlocks.{item_block, item_past}
use Rattle.hl_found.proofs.LiveFound.{last_or_before}
use Rattle.hl_found.proofs.away.has_away_from.Goals as goal

pub returns-then-is_away_at : goal.returns-then-is_away_at
returns-then-is_away_at c = (
  λ yes. (c.each.j, c.each.auto.j, item_block c.args.node.now c.as_slice-blocks.result.now c.as_slice-blocks.ensures.value c.each.j c.index-blocks-j.result c.each-test.true c.index-blocks-j.is ∙ c.if-is_away_at.ensures.0 refl),
  λ has. refl,
)

pub each-preserved : goal.each-preserved
each-preserved c = λ j low lt at. ⊎_elim (λ before. c.each.invariant j low before at)
    (λ same. (let own = item_block c.args.node.now c.as_slice-blocks.result.now c.as_slice-blocks.ensures.value c.each.j c.index-blocks-j.result c.each-test.true c.index-blocks-j.is in
    let e = c.if-is_away_at.ensures.1 (sym own ∙ ap (file_block (node_found c.args.node.now).content) (sym same) ∙ at) in cc))
    (last_or_before j c.each.j lt)

pub returns : goal.returns
returns c = (
  λ e. absurd (cc),
  λ (j, low, at). absurd (⊎_elim
      (λ lt. c.each.invariant j low lt at)
      (λ ge. (let hole = item_past c.args.node.now c.as_slice-blocks.result.now c.as_slice-blocks.ensures.value j (omega (arith, c.each-test.false)) in
      let never : Hole ≡ Away c.args.serial c.args.position = sym hole ∙ at in cc))
      (cases_lt j c.each.j)),
)
