use Rattle.std.proofs.Common.{arith, sym, subst}
use Rattle.hl_store.proofs.ReadRuns.{reads_then}
use Rattle.hl_store.specs.Values.{layout}
use Rattle.hl_tree.specs.declared.call.Call.TheVariants as calls
use Rattle.hl_tree.specs.declared.call.Reply.TheVariants as replies
use Rattle.hl_tree.specs.declared.call.Refusal.TheVariants.{Efbig, Einval}
use Rattle.hl_calls.specs.declared.step.FileStep.TheVariants as step
use Rattle.hl_calls.specs.Calls.{MakesCall}
use Rattle.hl_calls.specs.Trees.{site_limits}
use Rattle.hl_calls.proofs.Ends.{ends_answered, ends_refused}
use Rattle.hl_data.specs.ByNumber.{writing}
use Rattle.hl_data.proofs.CallsMade.{call_made, ends_halted, is_none, is_some, write_beyond, write_many, write_nothing, write_work}
use Rattle.hl_data.proofs.DataExits.{write_refused}
use Rattle.hl_data.proofs.writing.write.Goals as goal

pub returns-in-Err-clause-made : goal.returns-in-Err-clause-made
returns-in-Err-clause-made g c =
    subst (MakesCall {M = g.row.M.Denot} g.M.Machine.history g.M.Machine.faults c.args.store.now c.file_at.new.store c.args.now (calls.Write c.args.path.now c.args.at c.args.bytes.now)) (sym c.halted.ensures)
    (ends_halted g.M.Machine.history g.M.Machine.faults c.args.store.now c.file_at.new.store c.file_at.ensures.reads c.file_at.ensures.machine.unchanged c.file_at.ensures.machine.faults_most
    c.args.now (calls.Write c.args.path.now c.args.at c.args.bytes.now) c.args.path.now c.in-Err.halt c.in-Err.ensures.halts
    (λ why shelf numbered lost. write_refused (site_limits (layout c.args.store.now)) shelf numbered c.args.now c.args.path.now why lost c.args.at c.args.bytes.now))

pub returns-then-bytes-gt-WRITE_MAX-clause-made : goal.returns-then-bytes-gt-WRITE_MAX-clause-made
returns-then-bytes-gt-WRITE_MAX-clause-made g c =
    subst (λ bytes. MakesCall {M = g.row.M.Denot} g.M.Machine.history g.M.Machine.faults c.args.store.now c.file_at.new.store c.args.now (calls.Write c.args.path.now c.args.at bytes) (step.Done (replies.Refused Einval))) c.items-bytes.ensures
    (ends_refused {M = g.row.M.Denot} g.M.Machine.history c.args.store.now c.file_at.new.store c.file_at.ensures.machine.unchanged c.file_at.ensures.reads g.M.Machine.faults c.args.now (calls.Write c.args.path.now c.args.at c.items-bytes.result.now) Einval
    (write_many g.M.Machine.history c.args.store.now c.args.now c.args.path.now c.in-Ok.number c.in-Ok.ensures.is c.args.at c.items-bytes.result.now c.if-bytes-gt-WRITE_MAX.true))

pub returns-then-is_empty-clause-made : goal.returns-then-is_empty-clause-made
returns-then-is_empty-clause-made g c =
    subst (λ bytes. MakesCall {M = g.row.M.Denot} g.M.Machine.history g.M.Machine.faults c.args.store.now c.file_at.new.store c.args.now (calls.Write c.args.path.now c.args.at bytes) (step.Done replies.Ok)) c.items-bytes.ensures
    (ends_answered {M = g.row.M.Denot} g.M.Machine.history c.args.store.now c.file_at.new.store c.file_at.ensures.machine.unchanged c.file_at.ensures.reads g.M.Machine.faults c.args.now (calls.Write c.args.path.now c.args.at c.items-bytes.result.now) replies.Ok
    (write_nothing g.M.Machine.history c.args.store.now c.args.now c.args.path.now c.in-Ok.number c.in-Ok.ensures.is c.args.at c.items-bytes.result.now c.if-bytes-gt-WRITE_MAX.false (is_none _ c.is_empty.result c.is_empty.ensures c.if-is_empty.true)))

pub returns-then-bytes-at-clause-made : goal.returns-then-bytes-at-clause-made
returns-then-bytes-at-clause-made g c =
    subst (λ bytes. MakesCall {M = g.row.M.Denot} g.M.Machine.history g.M.Machine.faults c.args.store.now c.file_at.new.store c.args.now (calls.Write c.args.path.now c.args.at bytes) (step.Done (replies.Refused Efbig))) c.items-bytes.ensures
    (ends_refused {M = g.row.M.Denot} g.M.Machine.history c.args.store.now c.file_at.new.store c.file_at.ensures.machine.unchanged c.file_at.ensures.reads g.M.Machine.faults c.args.now (calls.Write c.args.path.now c.args.at c.items-bytes.result.now) Efbig
    (write_beyond g.M.Machine.history c.args.store.now c.args.now c.args.path.now c.in-Ok.number c.in-Ok.ensures.is c.args.at c.items-bytes.result.now c.if-bytes-gt-WRITE_MAX.false (is_some _ c.is_empty.result c.is_empty.ensures c.if-is_empty.false) (omega arith)))

pub returns-clause-made : goal.returns-clause-made
returns-clause-made g c =
    subst (λ bytes. MakesCall {M = g.row.M.Denot} g.M.Machine.history g.M.Machine.faults c.args.store.now c.write_into.new.store c.args.now (calls.Write c.args.path.now c.args.at bytes) (c.write_into.result)) c.items-bytes.ensures
    (call_made {M = g.row.M.Denot} g.M.Machine.history g.M.Machine.faults c.args.store.now c.file_at.new.store c.file_at.ensures.reads c.file_at.ensures.machine.unchanged c.file_at.ensures.machine.faults_most
    c.args.now (calls.Write c.args.path.now c.args.at c.items-bytes.result.now) c.write_into.new.store c.write_into.ensures.machine.unchanged c.in-Ok.number (writing c.args.now c.args.at c.items-bytes.result.now)
    (write_work g.M.Machine.history c.args.store.now c.args.now c.args.path.now c.in-Ok.number c.in-Ok.ensures.is c.args.at c.items-bytes.result.now c.if-bytes-gt-WRITE_MAX.false (is_some _ c.is_empty.result c.is_empty.ensures c.if-is_empty.false) (omega arith))
    c.write_into.result c.write_into.ensures.work)

pub returns-clause-machine : goal.returns-clause-machine
returns-clause-machine g c = reads_then {M = g.row.M.Denot} c.file_at.ensures.machine c.write_into.ensures.machine
