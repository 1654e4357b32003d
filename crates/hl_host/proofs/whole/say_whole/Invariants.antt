use Rattle.std.proofs.Common.{◌≤◌, length, take}
use Rattle.std.specs.Io.KnownBytes.{Appends}
use Rattle.hl_host.proofs.whole.say_whole.Given as goal

abbrev pub invariant-says : goal.invariant-says
invariant-says g l = record {
  low : l.done ≤ length l.bytes;
  said : Appends (g.W.Write.contents l.initial.output) (g.W.Write.contents l.output) (take l.done l.bytes);
}
