use Rattle.std.proofs.Common.{ℕ, ◌<◌}
use Rattle.std.specs.Prelude.{None}
use Rattle.std.specs.List.{slice_index_or}
use Rattle.hl_found.specs.Files.{ServesNodeAt}
use Rattle.hl_found.specs.Shelves.{at_hand}
use Rattle.hl_found.proofs.files.serves_nodes.Given as goal

abbrev pub invariant-numbers : goal.invariant-numbers
invariant-numbers l = (i : ℕ) → i < l.number → ServesNodeAt (at_hand l.staged l.shelf) (slice_index_or l.nodes i None)
