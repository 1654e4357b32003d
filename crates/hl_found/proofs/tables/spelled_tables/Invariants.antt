use Rattle.std.proofs.Common.{◌≡◌, ℕ, ◌<◌}
use Rattle.std.specs.Prelude.{slice_index}
use Rattle.hl_bytes.specs.Buffers.{block_of}
use Rattle.hl_image.specs.Places.{InLog}
use Rattle.hl_tables.specs.Values.{SameShape, fresh}
use Rattle.hl_tables.specs.TableBlocks.{table_block}
use Rattle.hl_found.proofs.tables.spelled_tables.Given as goal

abbrev pub invariant-blocks-2 : goal.invariant-blocks-2
invariant-blocks-2 l = record {
  shape : SameShape (fresh l.geometry) l.tables;
  read : (j : ℕ) → j < l.i → InLog l.geometry (slice_index l.addresses j) × (table_block l.tables j ≡ block_of l.image (slice_index l.addresses j));
}
