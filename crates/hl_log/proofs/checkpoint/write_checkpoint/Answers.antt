use Rattle.std.proofs.Common.{◌≤◌, ◌∙◌, length, drop, ap, subst, arith}
use Rattle.hl_media.specs.Moments.{Runs}
use Rattle.hl_log.specs.Checkpoints.{drafted}
use Rattle.hl_log.specs.Loads.{bytes_of_tables}
use Rattle.hl_log.specs.Units.{Brought, WritesUnit}
use Rattle.hl_log.proofs.Addresses.{plan_fits}
use Rattle.hl_log.proofs.Sites.{large_segments}
use Rattle.hl_log.proofs.Tables.{brought_same, tables_batch, plan_is_enough, record_behind, checkpoint_run, checkpoint_done}
use Rattle.hl_log.proofs.TwoPhases.{first_phase, length-addresses}
use Rattle.hl_log.proofs.Silence.{silent_then}
use Rattle.hl_log.proofs.checkpoint.write_checkpoint.Goals as goal

pub write_parts-requires-clause-batch : goal.write_parts-requires-clause-batch
write_parts-requires-clause-batch g c = tables_batch c.args.geometry.now c.args.tables.now c.requires.limits c.requires.tables

pub write_parts-requires-clause-enough : goal.write_parts-requires-clause-enough
write_parts-requires-clause-enough g c = plan_is_enough c.args.geometry.now c.args.log.head c.args.clean.now (length c.args.tables.now) c.args.draft.tables c.requires.plan

pub record_of-new-requires-clause-tables : goal.record_of-new-requires-clause-tables
record_of-new-requires-clause-tables g c =
    let plan = c.requires.plan in
    ap length plan.3 ∙ length-addresses c.args.geometry.now c.args.log.head c.args.clean.now (length c.args.tables.now) 0 plan.0 plan.1 plan.2 ∙ c.requires.tables

pub record_of-new-requires-clause-fit : goal.record_of-new-requires-clause-fit
record_of-new-requires-clause-fit g c = plan_fits c.args.geometry.now c.args.log.head c.args.clean.now (length c.args.tables.now) 0 c.args.draft.tables c.requires.limits c.requires.place c.requires.clean c.requires.plan

pub returns-in_err-at-clause-crash : goal.returns-in_err-at-clause-crash
returns-in_err-at-clause-crash g c =
    let three : 3 ≤ c.args.geometry.now.k = omega (arith, large_segments c.args.geometry.now c.requires.limits) in
    let tables = bytes_of_tables c.args.tables.now in
    let run = subst (λ (u : Brought). Runs (g.M.Machine.history c.args.machine.now) (g.M.Machine.history c.write_parts.new.machine) (WritesUnit c.args.geometry.now c.args.log c.args.clean.now u)) (brought_same c.args.tables.now) c.write_parts.ensures.crash in
    first_phase c.args.geometry.now c.args.log c.args.clean.now (drafted c.args.draft) tables three _ _ run

pub returns-in_err-write_record-clause-crash : goal.returns-in_err-write_record-clause-crash
returns-in_err-write_record-clause-crash g c = checkpoint_run c.args.geometry.now c.args.log c.args.clean.now c.args.draft c.args.tables.now (omega (arith, large_segments c.args.geometry.now c.requires.limits)) c.in_ok-at.at (drop c.in_ok-at.used c.args.clean.now) c.record_of-new.result
    c.in_ok-at.ensures.position c.record_of-new.ensures.value c.requires.plan c.in_ok-at.ensures.goes_on _ _ _ c.in_ok-at.ensures.crash c.in_ok-at.ensures.written c.write_record.ensures.crash

pub returns-clause-crash : goal.returns-clause-crash
returns-clause-crash g c = checkpoint_run c.args.geometry.now c.args.log c.args.clean.now c.args.draft c.args.tables.now (omega (arith, large_segments c.args.geometry.now c.requires.limits)) c.in_ok-at.at (drop c.in_ok-at.used c.args.clean.now) c.record_of-new.result
    c.in_ok-at.ensures.position c.record_of-new.ensures.value c.requires.plan c.in_ok-at.ensures.goes_on _ _ _ c.in_ok-at.ensures.crash c.in_ok-at.ensures.written c.in_ok-write_record.ensures.crash

pub returns-clause-done : goal.returns-clause-done
returns-clause-done g c = checkpoint_done c.args.geometry.now c.args.log c.args.clean.now c.args.draft c.args.tables.now (omega (arith, large_segments c.args.geometry.now c.requires.limits)) c.in_ok-at.at (drop c.in_ok-at.used c.args.clean.now) c.record_of-new.result
    c.in_ok-at.ensures.position c.record_of-new.ensures.value c.requires.plan c.in_ok-at.ensures.goes_on _ _ _ c.in_ok-at.ensures.crash c.in_ok-at.ensures.written c.in_ok-write_record.ensures.crash c.in_ok-write_record.ensures.recorded

pub returns-in_err-write_record-clause-silent : goal.returns-in_err-write_record-clause-silent
returns-in_err-write_record-clause-silent g c = silent_then _ _ _ c.in_ok-at.ensures.silent c.write_record.ensures.silent

pub returns-clause-silent : goal.returns-clause-silent
returns-clause-silent g c = silent_then _ _ _ c.in_ok-at.ensures.silent c.in_ok-write_record.ensures.silent

pub returns-clause-rec : goal.returns-clause-rec
returns-clause-rec g c = record_behind c.args.geometry.now c.args.log c.args.clean.now c.args.draft c.args.tables.now c.in_ok-at.at (drop c.in_ok-at.used c.args.clean.now) c.record_of-new.result
    c.requires.place c.requires.clean c.record_of-new.ensures.value c.requires.plan c.in_ok-at.ensures.goes_on
