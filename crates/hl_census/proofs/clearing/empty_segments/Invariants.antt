use Rattle.hl_census.specs.Clearing.{AreEmptyBelow}
use Rattle.hl_census.proofs.clearing.empty_segments.Given as goal

abbrev pub invariant-segments : goal.invariant-segments
invariant-segments l = AreEmptyBelow l.at l.covered l.live l.segment l.clean.items
