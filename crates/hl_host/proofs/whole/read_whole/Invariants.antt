use Rattle.std.proofs.Common.{◌≡◌, ◌≤◌, length}
use Rattle.hl_host.specs.Places.{StandsAt}
use Rattle.hl_host.proofs.whole.read_whole.Given as goal

abbrev pub invariant-reads : goal.invariant-reads
invariant-reads g l = record {
  low : l.done ≤ length l.out;
  there : StandsAt (g.F.PositionalFile.content l.initial.file) l.from l.done l.out;
  content : g.F.PositionalFile.content l.file ≡ g.F.PositionalFile.content l.initial.file;
  lasting : g.F.PositionalFile.lasting l.file ≡ g.F.PositionalFile.lasting l.initial.file;
}
