use Rattle.std.proofs.Common.{◌≡◌, ◌∙◌, ap, false, sym, subst}
use Rattle.std.proofs.lemmas.Result.{err_from_is_err_and}
use Rattle.hl_tree.specs.Names.{is_too_long}
use Rattle.hl_store.proofs.ReadRuns.{reads_then}
use Rattle.hl_walk.specs.Walks.{Halts, LeadsNowhere, LeadsTo}
use Rattle.hl_walk.proofs.KeptTrees.{reads_both}
use Rattle.hl_data.proofs.FilesFound.{path_dir, path_file, path_long, path_lost}
use Rattle.hl_data.proofs.file.file_at.Goals as goal

pub returns-then-is_too_long-clause-halts : goal.returns-then-is_too_long-clause-halts
returns-then-is_too_long-clause-halts g c =
    path_long {M = g.row.M.Denot} g.M.Machine.history c.args.store.now c.args.path.now (ap is_too_long (sym c.names.ensures.is) ∙ sym c.is_too_long.ensures ∙ c.if-is_too_long.true)

pub returns-in_err-number-clause-halts : goal.returns-in_err-number-clause-halts
returns-in_err-number-clause-halts g c =
    let short : is_too_long c.args.path.now ≡ false = ap is_too_long (sym c.names.ensures.is) ∙ sym c.is_too_long.ensures ∙ c.if-is_too_long.false in
    let p = err_from_is_err_and c.from_residual.result c.from_residual.ensures.1 in
    rw (p.1, p.2)
    (path_lost {M = g.row.M.Denot} g.M.Machine.history c.args.store.now c.args.path.now short g.M.Machine.faults c.find_number.new.store c.in_err-number.field-0.0
    (subst (λ p. Halts g.M.Machine.history g.M.Machine.faults c.args.store.now c.find_number.new.store (LeadsNowhere p) c.in_err-number.field-0.0) c.names-2.ensures.is c.in_err-number.ensures.halts))

pub returns-in-File-clause-is : goal.returns-in-File-clause-is
returns-in-File-clause-is g c =
    let short : is_too_long c.args.path.now ≡ false = ap is_too_long (sym c.names.ensures.is) ∙ sym c.is_too_long.ensures ∙ c.if-is_too_long.false in
    path_file {M = g.row.M.Denot} g.M.Machine.history c.args.store.now c.args.path.now short c.find_number.new.store c.find_number.ensures.reads c.find_number.ensures.machine.unchanged
    c.in_ok-number.number c.in-Node.node (subst (λ p. LeadsTo g.M.Machine.history c.args.store.now p c.in_ok-number.number) c.names-2.ensures.is c.in_ok-number.ensures.leads) c.in-Node.ensures.found c.in-File.is c.in-Node.ensures.drafted.size

pub returns-in-File-clause-reads : goal.returns-in-File-clause-reads
returns-in-File-clause-reads g c = reads_both {M = g.row.M.Denot} g.M.Machine.history c.args.store.now c.find_number.new.store c.find_number.ensures.reads c.find_number.ensures.machine.unchanged c.node.new.self c.node.ensures.reads

pub returns-in-File-clause-machine : goal.returns-in-File-clause-machine
returns-in-File-clause-machine g c = reads_then {M = g.row.M.Denot} c.find_number.ensures.machine c.node.ensures.machine

pub returns-in-Dir-clause-halts : goal.returns-in-Dir-clause-halts
returns-in-Dir-clause-halts g c =
    let short : is_too_long c.args.path.now ≡ false = ap is_too_long (sym c.names.ensures.is) ∙ sym c.is_too_long.ensures ∙ c.if-is_too_long.false in
    path_dir {M = g.row.M.Denot} g.M.Machine.history c.args.store.now c.args.path.now short c.find_number.new.store c.find_number.ensures.reads c.find_number.ensures.machine.unchanged
    c.in_ok-number.number c.in-Node.node (subst (λ p. LeadsTo g.M.Machine.history c.args.store.now p c.in_ok-number.number) c.names-2.ensures.is c.in_ok-number.ensures.leads) c.in-Node.ensures.found c.in-Dir.is

pub returns-in-Dir-clause-reads : goal.returns-in-Dir-clause-reads
returns-in-Dir-clause-reads g c = reads_both {M = g.row.M.Denot} g.M.Machine.history c.args.store.now c.find_number.new.store c.find_number.ensures.reads c.find_number.ensures.machine.unchanged c.node.new.self c.node.ensures.reads

pub returns-in-Dir-clause-machine : goal.returns-in-Dir-clause-machine
returns-in-Dir-clause-machine g c = reads_then {M = g.row.M.Denot} c.find_number.ensures.machine c.node.ensures.machine

pub returns-in-Unused-clause-reads : goal.returns-in-Unused-clause-reads
returns-in-Unused-clause-reads g c = reads_both {M = g.row.M.Denot} g.M.Machine.history c.args.store.now c.find_number.new.store c.find_number.ensures.reads c.find_number.ensures.machine.unchanged c.node.new.self c.node.ensures.reads

pub returns-in-Unused-clause-machine : goal.returns-in-Unused-clause-machine
returns-in-Unused-clause-machine g c = reads_then {M = g.row.M.Denot} c.find_number.ensures.machine c.node.ensures.machine

pub returns-in-DiskFault-clause-reads : goal.returns-in-DiskFault-clause-reads
returns-in-DiskFault-clause-reads g c = reads_both {M = g.row.M.Denot} g.M.Machine.history c.args.store.now c.find_number.new.store c.find_number.ensures.reads c.find_number.ensures.machine.unchanged c.node.new.self c.node.ensures.reads

pub returns-in-DiskFault-clause-machine : goal.returns-in-DiskFault-clause-machine
returns-in-DiskFault-clause-machine g c = reads_then {M = g.row.M.Denot} c.find_number.ensures.machine c.node.ensures.machine
