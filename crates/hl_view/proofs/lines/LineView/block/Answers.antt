use Rattle.std.proofs.Common.{◌<◌, length, subst, sym, arith}
use Rattle.hl_view.specs.Lines.{head_in}
use Rattle.hl_view.specs.declared.lines.LineView.{LineView}
use Rattle.hl_view.proofs.SegmentLemmas.{count_in}
use Rattle.hl_view.proofs.lines.LineView.block.Goals as goal

pub overflow_add-i : goal.overflow_add-i
overflow_add-i c =
    let bytes = c.self.inside.segment.now in
    let within : c.args.i < length (head_in bytes).records = subst (λ (v : LineView). c.args.i < length v.head.records) (sym c.self.view_is) c.requires in
    omega (arith, within, count_in bytes, c.self.invariant.few)

pub block_of-requires : goal.block_of-requires
block_of-requires c =
    let bytes = c.self.inside.segment.now in
    let within : c.args.i < length (head_in bytes).records = subst (λ (v : LineView). c.args.i < length v.head.records) (sym c.self.view_is) c.requires in
    omega (arith, within, count_in bytes, c.self.invariant.blocks)
