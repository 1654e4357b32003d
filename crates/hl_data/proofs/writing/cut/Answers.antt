use Rattle.std.proofs.Common.{sym, subst}
use Rattle.hl_store.proofs.ReadRuns.{reads_then}
use Rattle.hl_store.specs.Values.{layout}
use Rattle.hl_tree.specs.declared.call.Call.TheVariants as calls
use Rattle.hl_tree.specs.declared.call.Refusal.TheVariants.{Efbig}
use Rattle.hl_calls.specs.Calls.{MakesCall}
use Rattle.hl_calls.specs.Trees.{site_limits}
use Rattle.hl_calls.proofs.Ends.{ends_refused}
use Rattle.hl_data.specs.ByNumber.{cutting}
use Rattle.hl_data.proofs.CallsMade.{call_made, ends_halted, cut_beyond, cut_work}
use Rattle.hl_data.proofs.DataExits.{cut_refused}
use Rattle.hl_data.proofs.writing.cut.Goals as goal

pub returns-in-Err-clause-made : goal.returns-in-Err-clause-made
returns-in-Err-clause-made g c =
    subst (MakesCall {M = g.row.M.Denot} g.M.Machine.history g.M.Machine.faults c.args.store.now c.file_at.new.store c.args.now (calls.Cut c.args.path.now c.args.size)) (sym c.halted.ensures)
    (ends_halted g.M.Machine.history g.M.Machine.faults c.args.store.now c.file_at.new.store c.file_at.ensures.reads c.file_at.ensures.machine.unchanged c.file_at.ensures.machine.faults_most
    c.args.now (calls.Cut c.args.path.now c.args.size) c.args.path.now c.in-Err.halt c.in-Err.ensures.halts
    (λ why shelf numbered lost. cut_refused (site_limits (layout c.args.store.now)) shelf numbered c.args.now c.args.path.now why lost c.args.size))

pub returns-then-size-gt-FILE_MAX-clause-made : goal.returns-then-size-gt-FILE_MAX-clause-made
returns-then-size-gt-FILE_MAX-clause-made g c =
    ends_refused {M = g.row.M.Denot} g.M.Machine.history c.args.store.now c.file_at.new.store c.file_at.ensures.machine.unchanged c.file_at.ensures.reads g.M.Machine.faults c.args.now (calls.Cut c.args.path.now c.args.size) Efbig
    (cut_beyond g.M.Machine.history c.args.store.now c.args.now c.args.path.now c.in-Ok.number c.in-Ok.ensures.is c.args.size c.if-size-gt-FILE_MAX.true)

pub returns-clause-made : goal.returns-clause-made
returns-clause-made g c =
    call_made {M = g.row.M.Denot} g.M.Machine.history g.M.Machine.faults c.args.store.now c.file_at.new.store c.file_at.ensures.reads c.file_at.ensures.machine.unchanged c.file_at.ensures.machine.faults_most
    c.args.now (calls.Cut c.args.path.now c.args.size) c.cut_to.new.store c.cut_to.ensures.machine.unchanged c.in-Ok.number (cutting c.args.now c.args.size)
    (cut_work g.M.Machine.history c.args.store.now c.args.now c.args.path.now c.in-Ok.number c.in-Ok.ensures.is c.args.size c.if-size-gt-FILE_MAX.false)
    c.cut_to.result c.cut_to.ensures.work

pub returns-clause-machine : goal.returns-clause-machine
returns-clause-machine g c = reads_then {M = g.row.M.Denot} c.file_at.ensures.machine c.cut_to.ensures.machine
