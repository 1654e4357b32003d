use Rattle.std.proofs.Common.{◌≡◌, ◌≤◌, length, take}
use Rattle.hl_host.specs.Places.{PutsAt}
use Rattle.hl_host.proofs.whole.write_whole.Given as goal

abbrev pub invariant-writes : goal.invariant-writes
invariant-writes g l = record {
  low : l.done ≤ length l.bytes;
  there : PutsAt (g.F.PositionalFile.content l.initial.file) (g.F.PositionalFile.content l.file) l.from (take l.done l.bytes);
  lasting : g.F.PositionalFile.lasting l.file ≡ g.F.PositionalFile.lasting l.initial.file;
}
