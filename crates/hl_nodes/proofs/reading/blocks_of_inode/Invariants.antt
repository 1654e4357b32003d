use Rattle.std.specs.Prelude.{◌≡◌, ℕ, ◌<◌, length, map}
use Rattle.std.specs.List.{slice_index_or}
use Rattle.hl_bytes.specs.Buffers.{block_of}
use Rattle.hl_placed.specs.Blocks.{Hole}
use Rattle.hl_nodes.specs.Pointers.{pointer_of}
use Rattle.hl_nodes.specs.Blocks.{StandsFor}
use Rattle.hl_nodes.specs.Found.{block_found}
use Rattle.hl_nodes.proofs.reading.blocks_of_inode.Given as goal

abbrev pub invariant-pointers : goal.invariant-pointers
invariant-pointers l = record {
  count : length l.blocks.items ≡ l.i;
  each : (k : ℕ) → k < l.i → StandsFor l.geometry l.slots (block_of l.image) l.inode.kind (pointer_of (block_of l.image) l.inode k) (slice_index_or (map block_found l.blocks.items) k Hole);
}
