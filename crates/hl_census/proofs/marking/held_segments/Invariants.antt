use Rattle.std.proofs.Common.{◌≡◌, ℕ, ◌<◌, length}
use Rattle.std.specs.Prelude.{◌↔◌}
use Rattle.hl_census.specs.Straying.{IsHeld, IsSet}
use Rattle.hl_census.proofs.marking.held_segments.Given as goal

abbrev pub invariant-segments : goal.invariant-segments
invariant-segments l = record {
  count : length l.held.items ≡ l.segment;
  each : (seg : ℕ) → seg < l.segment → IsSet l.held.items seg ↔ IsHeld l.tables l.at l.covered seg;
}
