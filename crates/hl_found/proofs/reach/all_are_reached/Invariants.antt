use Rattle.std.proofs.Common.{ℕ, ◌<◌}
use Rattle.std.specs.Prelude.{None, IsSome}
use Rattle.std.specs.List.{slice_index_or}
use Rattle.hl_found.specs.Reach.{HasNumber}
use Rattle.hl_found.proofs.reach.all_are_reached.Given as goal

abbrev pub invariant-numbers : goal.invariant-numbers
invariant-numbers l = (number : ℕ) → number < l.number → IsSome (slice_index_or l.uses number None) → HasNumber number l.reached
