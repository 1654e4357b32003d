use Rattle.std.specs.Io.KnownBytes.{Keeps}
use Rattle.hl_host.proofs.source.read_some.Given as goal

abbrev pub invariant-reads : goal.invariant-reads
invariant-reads g l = Keeps (g.R.Read.remaining l.initial.input) (g.R.Read.remaining l.input)
