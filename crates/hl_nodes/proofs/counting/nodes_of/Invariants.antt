use Rattle.std.specs.Prelude.{◌≡◌, ℕ, ◌<◌, ◌≤◌, length, slice_index, None, option_map}
use Rattle.hl_bytes.specs.Buffers.{block_of}
use Rattle.hl_nodes.specs.Nodes.{IsMapEntry}
use Rattle.std.specs.List.{slice_index_or}
use Rattle.hl_nodes.specs.Found.{node_found}
use Rattle.hl_nodes.proofs.counting.nodes_of.Given as goal

abbrev pub invariant-numbers : goal.invariant-numbers
invariant-numbers l = record {
  count : length l.nodes.items ≡ l.ino;
  zero : slice_index_or l.nodes.items 0 None ≡ None;
  entries : (k : ℕ) → 1 ≤ k → k < l.ino → IsMapEntry l.geometry l.tables.slots (block_of l.image) k (slice_index l.tables.inodes k) (option_map node_found (slice_index_or l.nodes.items k None));
}
