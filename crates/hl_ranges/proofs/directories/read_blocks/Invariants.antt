use Rattle.hl_ranges.proofs.DirectoryReads.{BlocksSoFar}
use Rattle.hl_ranges.proofs.directories.read_blocks.Given as goal

-- the blocks before this one
abbrev pub invariant-each : goal.invariant-each
invariant-each g l = BlocksSoFar g.M.Machine.history g.M.Machine.blocks g.M.Machine.faults g.M.Machine.write_faults g.M.Machine.say_faults l.fn.store l.ino l.store l.i l.bytes
