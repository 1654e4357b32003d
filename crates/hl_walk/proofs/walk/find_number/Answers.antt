use Rattle.std.proofs.Common.{◌<◌, length, ◌∙◌, arith}
use Rattle.std.proofs.lemmas.Result.{err_from_is_err_and}
use Rattle.hl_store.proofs.ReadRuns.{reads_then}
use Rattle.hl_walk.proofs.KeptTrees.{reads_both}
use Rattle.hl_walk.proofs.WalkSteps.{walked_end, walked_more, walked_start, walked_stop}
use Rattle.hl_walk.proofs.walk.find_number.Goals as goal

pub names-init : goal.names-init
names-init g c =
    walked_start {M = g.row.M.Denot} g.M.Machine.history g.M.Machine.blocks g.M.Machine.faults g.M.Machine.write_faults g.M.Machine.say_faults
    c.args.store.now c.args.path.now c.root_of-number.result c.root_of-number.ensures.is c.root_of-number.ensures.number

pub returns-in_err-number-clause-halts : goal.returns-in_err-number-clause-halts
returns-in_err-number-clause-halts g c =
    let low : c.names.name-index < length c.args.path.now = omega arith in
    let p = err_from_is_err_and c.from_residual.result c.from_residual.ensures.1 in
    rw (p.1, p.2)
    (walked_stop {M = g.row.M.Denot} g.M.Machine.history g.M.Machine.blocks g.M.Machine.faults g.M.Machine.write_faults g.M.Machine.say_faults
    c.args.store.now c.names.store c.child_of.new.store c.args.path.now c.names.name-index c.names.number c.items.result.now low c.name-item.result (c.items.ensures ∙ c.name-item.is) c.names.invariant c.in_err-number.field-0.0 c.in_err-number.ensures.halts)

pub returns-in_err-number-clause-reads : goal.returns-in_err-number-clause-reads
returns-in_err-number-clause-reads g c = reads_both {M = g.row.M.Denot} g.M.Machine.history c.args.store.now c.names.store c.names.invariant.reads c.names.invariant.machine.unchanged c.child_of.new.store c.child_of.ensures.reads

pub returns-in_err-number-clause-machine : goal.returns-in_err-number-clause-machine
returns-in_err-number-clause-machine g c = reads_then {M = g.row.M.Denot} c.names.invariant.machine c.child_of.ensures.machine

pub names-preserved : goal.names-preserved
names-preserved g c =
    let low : c.names.name-index < length c.args.path.now = omega arith in
    walked_more {M = g.row.M.Denot} g.M.Machine.history g.M.Machine.blocks g.M.Machine.faults g.M.Machine.write_faults g.M.Machine.say_faults
    c.args.store.now c.names.store c.child_of.new.store c.args.path.now c.names.name-index c.names.number c.items.result.now low c.name-item.result (c.items.ensures ∙ c.name-item.is) c.names.invariant
    c.in_ok-number.number c.in_ok-number.ensures.child c.in_ok-number.ensures.number c.in_ok-number.ensures.reads c.in_ok-number.ensures.machine

pub returns-clause-leads : goal.returns-clause-leads
returns-clause-leads g c =
    walked_end {M = g.row.M.Denot} g.M.Machine.history g.M.Machine.blocks g.M.Machine.faults g.M.Machine.write_faults g.M.Machine.say_faults
    c.args.store.now c.names.store c.args.path.now c.names.name-index c.names.number (omega arith) c.names.invariant
