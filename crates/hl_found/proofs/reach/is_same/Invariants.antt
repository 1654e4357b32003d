use Rattle.std.proofs.Common.{◌≡◌, ℕ, ◌<◌, List}
use Rattle.std.specs.List.{slice_index_or}
use Rattle.hl_found.proofs.reach.is_same.Given as goal

abbrev pub invariant-names : goal.invariant-names
invariant-names l = (i : ℕ) (d : List ℕ) → i < l.i → slice_index_or l.one i d ≡ slice_index_or l.other i d
