use Rattle.std.proofs.Common.{arith}
use Rattle.hl_view.proofs.SegmentLemmas.{tested, tests}
use Rattle.hl_view.proofs.lines.is_segment.Goals as goal

pub returns : goal.returns
returns c = (
  λ t. tested c.args.bytes.now c.args.serial c.requires (λ i. omega (arith, c.type_inv.bytes i)) (c.is_tested.ensures.0 t),
  λ p. c.is_tested.ensures.1 (tests c.args.bytes.now c.args.serial c.requires p),
)
