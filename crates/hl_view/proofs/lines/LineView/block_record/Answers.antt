use Rattle.std.proofs.Common.{◌≡◌, ◌<◌, Some, length, subst, sym, ◌∙◌, ap, arith}
use Rattle.std.specs.List.{slice_get}
use Rattle.hl_view.specs.Lines.{head_in}
use Rattle.hl_view.specs.declared.lines.LineView.{LineView}
use Rattle.hl_view.proofs.SegmentLemmas.{count_in, record_in}
use Rattle.hl_view.proofs.lines.LineView.block_record.Goals as goal

pub get_block_record-requires : goal.get_block_record-requires
get_block_record-requires c =
    let bytes = c.self.inside.segment.now in
    let within : c.args.i < length (head_in bytes).records = subst (λ (v : LineView). c.args.i < length v.head.records) (sym c.self.view_is) c.requires in
    omega (arith, within, count_in bytes, c.self.invariant.blocks, c.self.invariant.few)

pub returns : goal.returns
returns c =
    let bytes = c.self.inside.segment.now in
    let within : c.args.i < length (head_in bytes).records = subst (λ (v : LineView). c.args.i < length v.head.records) (sym c.self.view_is) c.requires in
    subst (λ (v : LineView). slice_get v.head.records c.args.i ≡ Some c.get_block_record.result) c.self.view_is (record_in bytes c.args.i within ∙ ap Some (sym c.get_block_record.ensures))
