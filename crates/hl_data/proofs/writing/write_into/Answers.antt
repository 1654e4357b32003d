use Rattle.std.proofs.Common.{refl, sym, subst}
use Rattle.hl_store.proofs.ReadRuns.{reads_then, rose_since}
use Rattle.hl_calls.proofs.FileReads.{read_more, read_one}
use Rattle.hl_data.specs.ByNumber.{DoesWork, TellsOver, writing}
use Rattle.hl_data.proofs.TreeFiles.{writing_ignores, writing_uses}
use Rattle.hl_data.proofs.WorkSteps.{change_done, changed_machine}
use Rattle.hl_data.proofs.WorkStops.{hands_behind, work_needing, work_stopped}
use Rattle.hl_data.proofs.writing.write_into.Goals as goal

pub returns-in-Err-clause-work : goal.returns-in-Err-clause-work
returns-in-Err-clause-work g c =
    subst (DoesWork {M = g.row.M.Denot} g.M.Machine.history g.M.Machine.faults c.args.store.now c.is_over_by_write.new.store c.args.number (writing c.args.now c.args.at c.args.bytes.now)) (sym c.stopped.ensures)
    (work_stopped g.M.Machine.history g.M.Machine.faults c.args.store.now c.is_over_by_write.new.store c.args.number (writing c.args.now c.args.at c.args.bytes.now) c.in-Err.step c.is_over_by_write.ensures.reads c.in-Err.ensures.stops)

pub returns-then-is_over-clause-work : goal.returns-then-is_over-clause-work
returns-then-is_over-clause-work g c = (c.is_over_by_write.ensures.reads, subst (TellsOver {M = g.row.M.Denot} g.M.Machine.history c.args.store.now c.args.number (writing c.args.now c.args.at c.args.bytes.now)) c.if-is_over.true (c.in-Ok.ensures.over c.args.now))

pub returns-in-Missing-clause-work : goal.returns-in-Missing-clause-work
returns-in-Missing-clause-work g c =
    work_needing {M = g.row.M.Denot} g.M.Machine.history c.args.store.now c.args.number (writing c.args.now c.args.at c.args.bytes.now) (writing_ignores c.args.now c.args.at c.args.bytes.now) c.is_over_by_write.new.store (read_one c.is_over_by_write.ensures.reads c.is_over_by_write.ensures.machine)
    c.write_needs.new.store (read_more (read_one c.is_over_by_write.ensures.reads c.is_over_by_write.ensures.machine) c.write_needs.ensures.reads c.write_needs.ensures.machine).reads c.in-Missing.tseg
    (subst (TellsOver {M = g.row.M.Denot} g.M.Machine.history c.args.store.now c.args.number (writing c.args.now c.args.at c.args.bytes.now)) c.if-is_over.false (c.in-Ok.ensures.over c.args.now))
    c.in-Missing.ensures.needs

pub returns-in-Missing-clause-machine : goal.returns-in-Missing-clause-machine
returns-in-Missing-clause-machine g c = (read_more (read_one c.is_over_by_write.ensures.reads c.is_over_by_write.ensures.machine) c.write_needs.ensures.reads c.write_needs.ensures.machine).machine

pub returns-in-DiskFault-clause-work : goal.returns-in-DiskFault-clause-work
returns-in-DiskFault-clause-work g c = ((read_more (read_one c.is_over_by_write.ensures.reads c.is_over_by_write.ensures.machine) c.write_needs.ensures.reads c.write_needs.ensures.machine).reads, rose_since _ _ _ c.is_over_by_write.ensures.machine.faults_most c.in-DiskFault.ensures.needs)

pub returns-in-DiskFault-clause-machine : goal.returns-in-DiskFault-clause-machine
returns-in-DiskFault-clause-machine g c = (read_more (read_one c.is_over_by_write.ensures.reads c.is_over_by_write.ensures.machine) c.write_needs.ensures.reads c.write_needs.ensures.machine).machine

pub returns-in-Memory-clause-work : goal.returns-in-Memory-clause-work
returns-in-Memory-clause-work g c = (read_more (read_one c.is_over_by_write.ensures.reads c.is_over_by_write.ensures.machine) c.write_needs.ensures.reads c.write_needs.ensures.machine).reads

pub returns-in-Memory-clause-machine : goal.returns-in-Memory-clause-machine
returns-in-Memory-clause-machine g c = (read_more (read_one c.is_over_by_write.ensures.reads c.is_over_by_write.ensures.machine) c.write_needs.ensures.reads c.write_needs.ensures.machine).machine

pub returns-in-DiskFault-write_range-clause-work : goal.returns-in-DiskFault-write_range-clause-work
returns-in-DiskFault-write_range-clause-work g c = (
  (read_more (read_more (read_one c.is_over_by_write.ensures.reads c.is_over_by_write.ensures.machine) c.write_needs.ensures.reads c.write_needs.ensures.machine) c.in-DiskFault-write_range.ensures.change.0 c.write_range.ensures.machine).reads,
  rose_since _ _ _ (read_more (read_one c.is_over_by_write.ensures.reads c.is_over_by_write.ensures.machine) c.write_needs.ensures.reads c.write_needs.ensures.machine).machine.faults_most c.in-DiskFault-write_range.ensures.change.1,
)

pub returns-in-DiskFault-write_range-clause-machine : goal.returns-in-DiskFault-write_range-clause-machine
returns-in-DiskFault-write_range-clause-machine g c = reads_then (read_more (read_one c.is_over_by_write.ensures.reads c.is_over_by_write.ensures.machine) c.write_needs.ensures.reads c.write_needs.ensures.machine).machine c.write_range.ensures.machine

pub returns-in-Memory-write_range-clause-work : goal.returns-in-Memory-write_range-clause-work
returns-in-Memory-write_range-clause-work g c = (read_more (read_more (read_one c.is_over_by_write.ensures.reads c.is_over_by_write.ensures.machine) c.write_needs.ensures.reads c.write_needs.ensures.machine) c.in-Memory-write_range.ensures.change c.write_range.ensures.machine).reads

pub returns-in-Memory-write_range-clause-machine : goal.returns-in-Memory-write_range-clause-machine
returns-in-Memory-write_range-clause-machine g c = reads_then (read_more (read_one c.is_over_by_write.ensures.reads c.is_over_by_write.ensures.machine) c.write_needs.ensures.reads c.write_needs.ensures.machine).machine c.write_range.ensures.machine

pub returns-clause-work : goal.returns-clause-work
returns-clause-work g c =
    change_done {M = g.row.M.Denot} (read_more (read_one c.is_over_by_write.ensures.reads c.is_over_by_write.ensures.machine) c.write_needs.ensures.reads c.write_needs.ensures.machine)
    c.write_range.new.store c.touch_lines.new.store c.touch.new.self c.args.number c.args.now c.in-Done.ensures.beside c.as_slice.result.now c.touch_lines.ensures c.touch.ensures.touches c.touch.ensures.uses
    (writing c.args.now c.args.at c.args.bytes.now) _ (writing_ignores c.args.now c.args.at c.args.bytes.now) (writing_uses c.args.now c.args.at c.args.bytes.now) (λ shelf file. refl)
    (subst (TellsOver {M = g.row.M.Denot} g.M.Machine.history c.args.store.now c.args.number (writing c.args.now c.args.at c.args.bytes.now)) c.if-is_over.false (c.in-Ok.ensures.over c.args.now))
    (hands_behind g.M.Machine.history c.args.store.now c.args.number (writing c.args.now c.args.at c.args.bytes.now) (writing_ignores c.args.now c.args.at c.args.bytes.now) c.is_over_by_write.new.store (read_one c.is_over_by_write.ensures.reads c.is_over_by_write.ensures.machine)
    c.new-tsegs.result.items c.write_needs.new.tsegs.items c.as_slice.result.now c.new-tsegs.ensures.items c.as_slice.ensures.value c.in-AtHand.ensures.needs)
    c.in-Done.ensures.change

pub returns-clause-machine : goal.returns-clause-machine
returns-clause-machine g c =
    changed_machine {M = g.row.M.Denot} (read_more (read_one c.is_over_by_write.ensures.reads c.is_over_by_write.ensures.machine) c.write_needs.ensures.reads c.write_needs.ensures.machine)
    c.write_range.new.store c.touch_lines.new.store c.touch.new.self c.args.number c.args.now c.in-Done.ensures.beside c.as_slice.result.now c.touch_lines.ensures c.touch.ensures.touches c.touch.ensures.uses
    (reads_then (read_more (read_one c.is_over_by_write.ensures.reads c.is_over_by_write.ensures.machine) c.write_needs.ensures.reads c.write_needs.ensures.machine).machine c.write_range.ensures.machine)
