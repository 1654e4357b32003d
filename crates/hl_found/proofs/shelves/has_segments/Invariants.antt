use Rattle.std.proofs.Common.{ℕ, ◌<◌}
use Rattle.hl_placed.specs.Blocks.{file_block}
use Rattle.hl_nodes.specs.Found.{node_found}
use Rattle.hl_found.specs.Shelves.{HasSegmentOf, at_hand}
use Rattle.hl_found.proofs.shelves.has_segments.Given as goal

abbrev pub invariant-each : goal.invariant-each
invariant-each l = (i : ℕ) → i < l.i → HasSegmentOf (at_hand l.staged l.shelf) (file_block (node_found l.node).content i)
