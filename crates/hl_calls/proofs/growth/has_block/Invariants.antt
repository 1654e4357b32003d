use Rattle.std.proofs.Common.{false}
use Rattle.hl_calls.specs.Counting.{FindsBlocks}
use Rattle.hl_calls.proofs.FileReads.{OnlyRead}
use Rattle.hl_calls.proofs.growth.has_block.Given as goal

-- each block before this one is a hole
abbrev pub invariant-each : goal.invariant-each
invariant-each g l = record {
  behind : OnlyRead g.M.Machine.history g.M.Machine.blocks g.M.Machine.faults g.M.Machine.write_faults g.M.Machine.say_faults l.fn.store l.store;
  holes : FindsBlocks g.M.Machine.history l.fn.store l.ino l.from l.i false;
}
