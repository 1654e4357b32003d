use Rattle.std.proofs.Common.{◌-◌, ◌≡◌, ◌≤◌, length}
use Rattle.hl_ranges.proofs.ReadRange.{ReadSoFar}
use Rattle.hl_ranges.proofs.reading.read_between.Given as goal

-- the parts before this one
abbrev pub invariant-parts : goal.invariant-parts
invariant-parts g l = record {
  low : l.at ≤ l.from;
  high : l.from ≤ l.end;
  long : l.before ≡ length l.fn.out.items;
  run : ReadSoFar g.M.Machine.history g.M.Machine.blocks g.M.Machine.faults g.M.Machine.write_faults g.M.Machine.say_faults
      l.fn.store l.store l.ino l.at l.from l.fn.out.items l.out.items;
}

abbrev pub decreases-parts : goal.decreases-parts
decreases-parts g l = l.end - l.from
