use Rattle.std.proofs.Common.{◌≡◌}
use Rattle.hl_log.specs.Logs.{OnlyReads}
use Rattle.hl_staged.proofs.EndsTold.{EndBelow}
use Rattle.hl_staged.proofs.ends.check_ends.Given as goal

abbrev pub invariant-numbers : goal.invariant-numbers
invariant-numbers g l = record {
  reads : OnlyReads g.M.Machine.history g.M.Machine.blocks g.M.Machine.faults g.M.Machine.write_faults g.M.Machine.say_faults l.fn.machine l.machine;
  faults : g.M.Machine.faults l.machine ≡ g.M.Machine.faults l.fn.machine;
  end : EndBelow l.geometry l.tables.slots l.found (g.M.Machine.history l.fn.machine) l.ino;
}
