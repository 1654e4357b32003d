use Rattle.std.proofs.lemmas.Result.{err_from_is_err_and}
use Rattle.hl_store.proofs.ReadRuns.{reads_then}
use Rattle.hl_walk.proofs.KeptTrees.{reads_both}
use Rattle.hl_walk.proofs.WalkSteps.{no_parent, parent_found, parent_stop}
use Rattle.hl_walk.proofs.walk.find_parent.Goals as goal

pub returns-in_err-number-clause-halts : goal.returns-in_err-number-clause-halts
returns-in_err-number-clause-halts g c =
    let p = err_from_is_err_and c.from_residual.result c.from_residual.ensures.1 in
    rw (p.1, p.2)
    (no_parent {M = g.row.M.Denot} g.M.Machine.history g.M.Machine.faults c.args.store.now c.find_number.new.store c.args.path.now c.in_err-number.field-0.0 c.in_err-number.ensures.halts)

pub returns-in_err-bytes-clause-halts : goal.returns-in_err-bytes-clause-halts
returns-in_err-bytes-clause-halts g c =
    let p = err_from_is_err_and c.from_residual-in_err-bytes.result c.from_residual-in_err-bytes.ensures.1 in
    rw (p.1, p.2)
    (parent_stop {M = g.row.M.Denot} g.M.Machine.history g.M.Machine.blocks g.M.Machine.faults g.M.Machine.write_faults g.M.Machine.say_faults
    c.args.store.now c.find_number.new.store c.entries_of.new.store c.args.path.now c.find_number.ensures.reads c.find_number.ensures.machine c.in_ok-number.number c.in_ok-number.ensures.leads c.in_err-bytes.field-0.0 c.in_err-bytes.ensures.halts)

pub returns-in_err-bytes-clause-reads : goal.returns-in_err-bytes-clause-reads
returns-in_err-bytes-clause-reads g c = reads_both {M = g.row.M.Denot} g.M.Machine.history c.args.store.now c.find_number.new.store c.find_number.ensures.reads c.find_number.ensures.machine.unchanged c.entries_of.new.store c.entries_of.ensures.reads

pub returns-in_err-bytes-clause-machine : goal.returns-in_err-bytes-clause-machine
returns-in_err-bytes-clause-machine g c = reads_then {M = g.row.M.Denot} c.find_number.ensures.machine c.entries_of.ensures.machine

pub returns-clause-parent : goal.returns-clause-parent
returns-clause-parent g c =
    parent_found {M = g.row.M.Denot} g.M.Machine.history g.M.Machine.blocks g.M.Machine.faults g.M.Machine.write_faults g.M.Machine.say_faults
    c.args.store.now c.find_number.new.store c.entries_of.new.store c.args.path.now c.find_number.ensures.reads c.find_number.ensures.machine
    (record { number = c.in_ok-number.number; bytes = c.in_ok-bytes.bytes }) c.in_ok-number.ensures.number c.in_ok-number.ensures.leads c.in_ok-bytes.ensures.entries

pub returns-clause-reads : goal.returns-clause-reads
returns-clause-reads g c = reads_both {M = g.row.M.Denot} g.M.Machine.history c.args.store.now c.find_number.new.store c.find_number.ensures.reads c.find_number.ensures.machine.unchanged c.entries_of.new.store c.entries_of.ensures.reads

pub returns-clause-machine : goal.returns-clause-machine
returns-clause-machine g c = reads_then {M = g.row.M.Denot} c.find_number.ensures.machine c.entries_of.ensures.machine
