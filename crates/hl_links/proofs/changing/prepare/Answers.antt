use Rattle.hl_links.proofs.MachineReads.{machine_reads}
use Rattle.hl_links.proofs.changing.prepare.Goals as goal

pub returns-in-Ready-clause-ready : goal.returns-in-Ready-clause-ready
returns-in-Ready-clause-ready g c = record { drafted = c.in-Ready.ensures.prepared.1; room = c.in-Ready.ensures.prepared.2 }

pub returns-in-DiskFault-clause-reads : goal.returns-in-DiskFault-clause-reads
returns-in-DiskFault-clause-reads g c = machine_reads {M = g.row.M.Denot} g.M.Machine.history c.args.store.now c.prepare.new.self c.in-DiskFault.ensures.prepared.0

pub returns-in-Memory-clause-reads : goal.returns-in-Memory-clause-reads
returns-in-Memory-clause-reads g c = machine_reads {M = g.row.M.Denot} g.M.Machine.history c.args.store.now c.prepare.new.self c.in-Memory.ensures.prepared
