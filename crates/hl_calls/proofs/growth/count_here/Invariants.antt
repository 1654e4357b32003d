use Rattle.std.proofs.Common.{◌≤◌, ◌+◌}
use Rattle.hl_calls.specs.Counting.{CountsHere}
use Rattle.hl_calls.proofs.FileReads.{OnlyRead}
use Rattle.hl_calls.proofs.growth.count_here.Given as goal

-- the resident blocks before this one
abbrev pub invariant-each : goal.invariant-each
invariant-each g l = record {
  behind : OnlyRead g.M.Machine.history g.M.Machine.blocks g.M.Machine.faults g.M.Machine.write_faults g.M.Machine.say_faults l.fn.store l.store;
  low : l.from ≤ l.i;
  few : l.count + l.from ≤ l.i;
  counts : CountsHere g.M.Machine.history l.fn.store l.ino l.from l.i l.count;
}
