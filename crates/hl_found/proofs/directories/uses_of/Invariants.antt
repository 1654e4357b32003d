use Rattle.std.proofs.Common.{◌≡◌, ℕ, ◌<◌}
use Rattle.std.specs.List.{slice_index_or}
use Rattle.std.specs.Prelude.{length, None, option_map}
use Rattle.hl_nodes.specs.Found.{node_found}
use Rattle.hl_found.specs.Directories.{IsUseAt}
use Rattle.hl_found.proofs.directories.uses_of.Given as goal

abbrev pub invariant-numbers : goal.invariant-numbers
invariant-numbers l = record {
  count : length l.uses.items ≡ l.number;
  each : (i : ℕ) → i < l.number → IsUseAt (option_map node_found (slice_index_or l.nodes i None)) (slice_index_or l.uses.items i None);
}
