use Rattle.hl_walk.proofs.WalkSteps.{entries_are, entries_none}
use Rattle.hl_walk.proofs.walk.entries_of.Goals as goal

pub returns-in-Bytes-clause-entries : goal.returns-in-Bytes-clause-entries
returns-in-Bytes-clause-entries g c = record {
  drafted = c.in-Bytes.ensures.found.0;
  are = entries_are {M = g.row.M.Denot} g.M.Machine.history c.args.store.now c.args.number c.in-Bytes.bytes.items c.in-Bytes.ensures.found.1;
}

pub returns-in-File-clause-halts : goal.returns-in-File-clause-halts
returns-in-File-clause-halts g c = entries_none {M = g.row.M.Denot} g.M.Machine.history c.args.store.now c.args.number c.in-File.ensures.found
