use Rattle.hl_store.proofs.ReadRuns.{reads_then}
use Rattle.hl_walk.proofs.KeptTrees.{reads_both}
use Rattle.hl_rename.proofs.moving.prepare_two.Goals as goal

pub returns-in_err-prepare-2-clause-reads : goal.returns-in_err-prepare-2-clause-reads
returns-in_err-prepare-2-clause-reads g c =
    reads_both {M = g.row.M.Denot} g.M.Machine.history c.args.store.now c.prepare.new.store c.prepare.ensures.reads c.prepare.ensures.machine.unchanged c.prepare-2.new.store c.prepare-2.ensures.reads

pub returns-in_err-prepare-2-clause-machine : goal.returns-in_err-prepare-2-clause-machine
returns-in_err-prepare-2-clause-machine g c =
    reads_then {M = g.row.M.Denot} c.prepare.ensures.machine c.prepare-2.ensures.machine

pub returns-clause-reads : goal.returns-clause-reads
returns-clause-reads g c =
    let machine = reads_then {M = g.row.M.Denot} c.prepare.ensures.machine c.prepare-2.ensures.machine in
    reads_both {M = g.row.M.Denot} g.M.Machine.history c.args.store.now c.prepare-2.new.store (reads_both {M = g.row.M.Denot} g.M.Machine.history c.args.store.now c.prepare.new.store c.prepare.ensures.reads c.prepare.ensures.machine.unchanged c.prepare-2.new.store c.prepare-2.ensures.reads) machine.unchanged c.prepare_target.new.store c.prepare_target.ensures.reads

pub returns-clause-machine : goal.returns-clause-machine
returns-clause-machine g c =
    reads_then {M = g.row.M.Denot} (reads_then {M = g.row.M.Denot} c.prepare.ensures.machine c.prepare-2.ensures.machine) c.prepare_target.ensures.machine
