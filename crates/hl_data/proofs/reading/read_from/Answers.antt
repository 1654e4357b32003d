use Rattle.hl_store.proofs.ReadRuns.{rose_since}
use Rattle.hl_calls.proofs.FileReads.{read_more, read_none, read_one}
use Rattle.hl_data.proofs.TreeFiles.{reading_ignores}
use Rattle.hl_data.proofs.WorkSteps.{read_done, used_machine}
use Rattle.hl_data.proofs.WorkStops.{hands_behind, reading_fits, reply_read, work_needing}
use Rattle.hl_data.specs.ByNumber.{reading}
use Rattle.hl_data.proofs.reading.read_from.Goals as goal

pub returns-in-Missing-clause-work : goal.returns-in-Missing-clause-work
returns-in-Missing-clause-work g c =
    work_needing {M = g.row.M.Denot} g.M.Machine.history c.args.store.now c.args.number (reading c.args.now c.args.at c.args.len) (reading_ignores c.args.now c.args.at c.args.len)
    {blocks = g.M.Machine.blocks} {faults = g.M.Machine.faults} {write_faults = g.M.Machine.write_faults} {say_faults = g.M.Machine.say_faults}
    c.args.store.now (read_none c.args.store.now) c.read_needs.new.store c.read_needs.ensures.reads c.in-Missing.tseg
    (reading_fits g.M.Machine.history c.args.store.now c.args.number c.args.now c.args.at c.args.len)
    c.in-Missing.ensures.needs

pub returns-in-DiskFault-read_range-clause-work : goal.returns-in-DiskFault-read_range-clause-work
returns-in-DiskFault-read_range-clause-work g c = ((read_more (read_one c.read_needs.ensures.reads c.read_needs.ensures.machine) c.read_range.ensures.reads c.read_range.ensures.machine).reads, rose_since _ _ _ c.read_needs.ensures.machine.faults_most c.in-DiskFault-read_range.ensures.range.1)

pub returns-in-DiskFault-read_range-clause-machine : goal.returns-in-DiskFault-read_range-clause-machine
returns-in-DiskFault-read_range-clause-machine g c = (read_more (read_one c.read_needs.ensures.reads c.read_needs.ensures.machine) c.read_range.ensures.reads c.read_range.ensures.machine).machine

pub returns-in-Memory-read_range-clause-machine : goal.returns-in-Memory-read_range-clause-machine
returns-in-Memory-read_range-clause-machine g c = (read_more (read_one c.read_needs.ensures.reads c.read_needs.ensures.machine) c.read_range.ensures.reads c.read_range.ensures.machine).machine

pub returns-in-Memory-read_range-clause-work : goal.returns-in-Memory-read_range-clause-work
returns-in-Memory-read_range-clause-work g c = (read_more (read_one c.read_needs.ensures.reads c.read_needs.ensures.machine) c.read_range.ensures.reads c.read_range.ensures.machine).reads

pub returns-clause-work : goal.returns-clause-work
returns-clause-work g c =
    read_done {M = g.row.M.Denot} (read_more (read_one c.read_needs.ensures.reads c.read_needs.ensures.machine) c.read_range.ensures.reads c.read_range.ensures.machine)
    c.touch_lines.new.store c.touch.new.self c.as_slice.result.now c.touch_lines.ensures c.args.number c.args.now c.touch.ensures.touches
    c.args.at c.args.len _
    (reading_fits g.M.Machine.history c.args.store.now c.args.number c.args.now c.args.at c.args.len)
    (hands_behind g.M.Machine.history c.args.store.now c.args.number (reading c.args.now c.args.at c.args.len) (reading_ignores c.args.now c.args.at c.args.len)
    {blocks = g.M.Machine.blocks} {faults = g.M.Machine.faults} {write_faults = g.M.Machine.write_faults} {say_faults = g.M.Machine.say_faults}
    c.args.store.now (read_none c.args.store.now) c.new-tsegs.result.items c.read_needs.new.tsegs.items c.as_slice.result.now c.new-tsegs.ensures.items c.as_slice.ensures.value c.in-AtHand.ensures.needs)
    (reply_read g.M.Machine.history c.args.store.now c.args.number c.args.now c.args.at c.args.len c.read_needs.new.store
    (read_one c.read_needs.ensures.reads c.read_needs.ensures.machine) c.new-bytes.result.items c.read_range.new.out.items c.of.result c.new-bytes.ensures.items c.of.ensures c.in-Done.ensures.range)

pub returns-clause-machine : goal.returns-clause-machine
returns-clause-machine g c =
    used_machine {M = g.row.M.Denot} (read_more (read_one c.read_needs.ensures.reads c.read_needs.ensures.machine) c.read_range.ensures.reads c.read_range.ensures.machine)
    c.touch_lines.new.store c.touch.new.self c.as_slice.result.now c.touch_lines.ensures c.args.number c.args.now c.touch.ensures.touches
