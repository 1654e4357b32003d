use Rattle.std.proofs.Common.{◌≡◌, take}
use Rattle.hl_bytes.specs.Buffers.{block_of}
use Rattle.hl_placed.specs.Blocks.{Shelf}
use Rattle.hl_nodes.specs.Lines.{with_staged}
use Rattle.hl_found.specs.Shelves.{shelf_over}
use Rattle.hl_found.proofs.shelves.staged_segments.Given as goal

abbrev pub invariant-each : goal.invariant-each
invariant-each l = (base : Shelf) → shelf_over base l.staged.items ≡ with_staged l.geometry (block_of l.image) base (take l.n l.slots)
