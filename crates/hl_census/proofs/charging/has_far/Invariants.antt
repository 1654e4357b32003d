use Rattle.std.proofs.Common.{◌≡◌, ℕ, ◌<◌, ◌≤◌}
use Rattle.std.specs.Prelude.{false, slice_index}
use Rattle.hl_census.specs.Naming.{is_address}
use Rattle.hl_census.proofs.charging.has_far.Given as goal

abbrev pub invariant-pointers : goal.invariant-pointers
invariant-pointers l = (j : ℕ) → 12 ≤ j → j < l.i → is_address (slice_index l.pointers j) ≡ false
