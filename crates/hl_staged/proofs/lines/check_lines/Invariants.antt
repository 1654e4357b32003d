use Rattle.std.proofs.Common.{◌≡◌, ◌*◌, length}
use Rattle.hl_log.specs.Logs.{OnlyReads}
use Rattle.hl_staged.proofs.LinesOff.{HoldBelow}
use Rattle.hl_staged.proofs.lines.check_lines.Given as goal

abbrev pub invariant-slots : goal.invariant-slots
invariant-slots g l = record {
  size : length l.buffer ≡ 4096 * l.geometry.k;
  reads : OnlyReads g.M.Machine.history g.M.Machine.blocks g.M.Machine.faults g.M.Machine.write_faults g.M.Machine.say_faults l.fn.machine l.machine;
  faults : g.M.Machine.faults l.machine ≡ g.M.Machine.faults l.fn.machine;
  hold : HoldBelow l.geometry l.tables.slots.slots (g.M.Machine.history l.fn.machine) l.i;
}
