use Rattle.std.proofs.Common.{sym, subst}
use Rattle.hl_store.proofs.ReadRuns.{reads_then}
use Rattle.hl_tree.specs.declared.call.Call.TheVariants as calls
use Rattle.hl_calls.specs.Calls.{MakesCall}
use Rattle.hl_calls.specs.Trees.{site_limits}
use Rattle.hl_store.specs.Values.{layout}
use Rattle.hl_data.specs.ByNumber.{reading}
use Rattle.hl_data.proofs.CallsMade.{call_made, ends_halted, read_work}
use Rattle.hl_data.proofs.DataExits.{read_refused}
use Rattle.hl_data.proofs.reading.read.Goals as goal

pub returns-in-Err-clause-made : goal.returns-in-Err-clause-made
returns-in-Err-clause-made g c =
    subst (MakesCall {M = g.row.M.Denot} g.M.Machine.history g.M.Machine.faults c.args.store.now c.file_at.new.store c.args.now (calls.Read c.args.path.now c.args.at c.args.len)) (sym c.halted.ensures)
    (ends_halted g.M.Machine.history g.M.Machine.faults c.args.store.now c.file_at.new.store c.file_at.ensures.reads c.file_at.ensures.machine.unchanged c.file_at.ensures.machine.faults_most
    c.args.now (calls.Read c.args.path.now c.args.at c.args.len) c.args.path.now c.in-Err.halt c.in-Err.ensures.halts
    (λ why shelf numbered lost. read_refused (site_limits (layout c.args.store.now)) shelf numbered c.args.now c.args.path.now why lost c.args.at c.args.len))

pub returns-clause-made : goal.returns-clause-made
returns-clause-made g c =
    call_made {M = g.row.M.Denot} g.M.Machine.history g.M.Machine.faults c.args.store.now c.file_at.new.store c.file_at.ensures.reads c.file_at.ensures.machine.unchanged c.file_at.ensures.machine.faults_most
    c.args.now (calls.Read c.args.path.now c.args.at c.args.len) c.read_from.new.store c.read_from.ensures.machine.unchanged c.in-Ok.number (reading c.args.now c.min.result c.args.len)
    (read_work g.M.Machine.history c.args.store.now c.args.now c.args.path.now c.in-Ok.number c.in-Ok.ensures.is c.args.at c.args.len c.min.result c.min.ensures)
    c.read_from.result c.read_from.ensures.work

pub returns-clause-machine : goal.returns-clause-machine
returns-clause-machine g c = reads_then {M = g.row.M.Denot} c.file_at.ensures.machine c.read_from.ensures.machine
