use Rattle.std.proofs.Common.{length}
use Rattle.hl_placed.specs.Blocks.{padded_block}
use Rattle.hl_ranges.specs.Directories.{directory_shape}
use Rattle.hl_ranges.proofs.PutSteps.{PutSoFar}
use Rattle.hl_ranges.proofs.directories.put_directory.Given as goal

-- the blocks before this one
abbrev pub invariant-each : goal.invariant-each
invariant-each g l = PutSoFar {M = g.row.M.Denot} l.fn.store l.store l.ino (directory_shape (length l.bytes)) 0 l.first l.i (padded_block l.bytes)
