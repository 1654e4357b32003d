use Rattle.std.proofs.Common.{◌≡◌, ℕ, ◌<◌}
use Rattle.std.specs.Prelude.{slice_get}
use Rattle.hl_recovery.proofs.rack.first_other.Given as goal

abbrev pub invariant-volumes : goal.invariant-volumes
invariant-volumes l = (k : ℕ) → k < l.i → slice_get l.rack k ≡ slice_get l.volumes k
