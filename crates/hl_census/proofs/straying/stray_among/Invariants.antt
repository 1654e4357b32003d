use Rattle.std.proofs.Common.{ℕ, ◌<◌}
use Rattle.std.specs.Prelude.{slice_index}
use Rattle.hl_census.specs.Straying.{IsStray}
use Rattle.hl_census.proofs.straying.stray_among.Given as goal

abbrev pub invariant-addresses : goal.invariant-addresses
invariant-addresses l = (j : ℕ) → j < l.i → IsStray l.geometry l.at l.used (slice_index l.addresses j) → ⊥
