use Rattle.std.proofs.Common.{◌≡◌, ℕ, ◌<◌}
use Rattle.std.specs.List.{slice_index_or}
use Rattle.hl_found.specs.declared.reach.Reached.{Reached}
use Rattle.hl_found.proofs.reach.place_of.Given as goal

abbrev pub invariant-each : goal.invariant-each
invariant-each l = (i : ℕ) (d : Reached) → i < l.i → (slice_index_or l.reached i d).number ≡ l.number → ⊥
