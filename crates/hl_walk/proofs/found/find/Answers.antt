use Rattle.std.proofs.Common.{◌≡◌, ◌∙◌, ap, false, sym, subst}
use Rattle.hl_tree.specs.Names.{is_too_long}
use Rattle.hl_store.proofs.ReadRuns.{reads_then}
use Rattle.hl_walk.specs.Walks.{LeadsTo}
use Rattle.hl_walk.proofs.KeptTrees.{reads_both}
use Rattle.hl_walk.proofs.WalkSteps.{path_to_directory, path_to_file}
use Rattle.hl_walk.proofs.found.find.Goals as goal

pub returns-in-File-clause-found : goal.returns-in-File-clause-found
returns-in-File-clause-found g c =
    let short : is_too_long c.args.path.now ≡ false = ap is_too_long (sym c.names.ensures.is) ∙ sym c.is_too_long.ensures ∙ c.if-is_too_long.false in
    path_to_file {M = g.row.M.Denot} g.M.Machine.history g.M.Machine.faults c.args.store.now c.find_number.new.store c.node.new.self c.find_number.ensures.reads c.find_number.ensures.machine.unchanged
    c.args.path.now c.in-Ok.number c.in-Node.node short (subst (λ p. LeadsTo g.M.Machine.history c.args.store.now p c.in-Ok.number) c.names-2.ensures.is c.in-Ok.ensures.leads) c.in-Node.ensures.found c.in-File.is

pub returns-in-Dir-clause-found : goal.returns-in-Dir-clause-found
returns-in-Dir-clause-found g c =
    let short : is_too_long c.args.path.now ≡ false = ap is_too_long (sym c.names.ensures.is) ∙ sym c.is_too_long.ensures ∙ c.if-is_too_long.false in
    path_to_directory {M = g.row.M.Denot} g.M.Machine.history g.M.Machine.faults c.args.store.now c.find_number.new.store c.node.new.self c.find_number.ensures.reads c.find_number.ensures.machine.unchanged
    c.args.path.now c.in-Ok.number c.in-Node.node short (subst (λ p. LeadsTo g.M.Machine.history c.args.store.now p c.in-Ok.number) c.names-2.ensures.is c.in-Ok.ensures.leads) c.in-Node.ensures.found c.in-Dir.is

pub returns-in-File-clause-reads : goal.returns-in-File-clause-reads
returns-in-File-clause-reads g c = reads_both {M = g.row.M.Denot} g.M.Machine.history c.args.store.now c.find_number.new.store c.find_number.ensures.reads c.find_number.ensures.machine.unchanged c.node.new.self c.node.ensures.reads

pub returns-in-File-clause-machine : goal.returns-in-File-clause-machine
returns-in-File-clause-machine g c = reads_then {M = g.row.M.Denot} c.find_number.ensures.machine c.node.ensures.machine

pub returns-in-Dir-clause-reads : goal.returns-in-Dir-clause-reads
returns-in-Dir-clause-reads g c = reads_both {M = g.row.M.Denot} g.M.Machine.history c.args.store.now c.find_number.new.store c.find_number.ensures.reads c.find_number.ensures.machine.unchanged c.node.new.self c.node.ensures.reads

pub returns-in-Dir-clause-machine : goal.returns-in-Dir-clause-machine
returns-in-Dir-clause-machine g c = reads_then {M = g.row.M.Denot} c.find_number.ensures.machine c.node.ensures.machine

pub returns-in-Unused-clause-reads : goal.returns-in-Unused-clause-reads
returns-in-Unused-clause-reads g c = reads_both {M = g.row.M.Denot} g.M.Machine.history c.args.store.now c.find_number.new.store c.find_number.ensures.reads c.find_number.ensures.machine.unchanged c.node.new.self c.node.ensures.reads

pub returns-in-Unused-clause-machine : goal.returns-in-Unused-clause-machine
returns-in-Unused-clause-machine g c = reads_then {M = g.row.M.Denot} c.find_number.ensures.machine c.node.ensures.machine

pub returns-in-DiskFault-clause-reads : goal.returns-in-DiskFault-clause-reads
returns-in-DiskFault-clause-reads g c = reads_both {M = g.row.M.Denot} g.M.Machine.history c.args.store.now c.find_number.new.store c.find_number.ensures.reads c.find_number.ensures.machine.unchanged c.node.new.self c.node.ensures.reads

pub returns-in-DiskFault-clause-machine : goal.returns-in-DiskFault-clause-machine
returns-in-DiskFault-clause-machine g c = reads_then {M = g.row.M.Denot} c.find_number.ensures.machine c.node.ensures.machine
