use Rattle.std.proofs.Common.{length, sym, ◌∙◌, ap}
use Rattle.hl_view.specs.declared.lines.LineView.{LineView}
use Rattle.hl_view.proofs.SegmentLemmas.{count_in}
use Rattle.hl_view.proofs.lines.LineView.len.Goals as goal

pub returns : goal.returns
returns c = c.get_u32.ensures.number ∙ sym (count_in c.self.inside.segment.now) ∙ ap (λ (v : LineView). length v.head.records) c.self.view_is
