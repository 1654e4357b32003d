use Rattle.std.proofs.Common.{◌≢◌, ℕ, ◌+◌, ◌<◌}
use Rattle.std.specs.Prelude.{slice_index}
use Rattle.hl_census.proofs.sharing.twice.Given as goal

abbrev pub invariant-places : goal.invariant-places
invariant-places l = (j : ℕ) → j + 1 < l.i → slice_index l.sorted j ≢ slice_index l.sorted (j + 1)
