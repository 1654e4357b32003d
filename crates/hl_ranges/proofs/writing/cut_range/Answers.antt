use Rattle.std.proofs.Common.{◌+◌, ◌/◌, if◌then◌else◌, Some}
use Rattle.hl_placed.specs.Changes.{cut_file}
use Rattle.hl_ranges.specs.Files.{file_shape}
use Rattle.hl_ranges.specs.Writing.{patched}
use Rattle.hl_ranges.proofs.FoundFiles.{reads_both, reads_then}
use Rattle.hl_ranges.proofs.PutSteps.{made_file}
use Rattle.hl_ranges.proofs.FileChanges.{beside_then, cut_same, reads_beside, stopped, unused_then}
use Rattle.hl_ranges.proofs.writing.cut_range.Goals as goal

pub returns-in-Err-read_cut-clause-change : goal.returns-in-Err-read_cut-clause-change
returns-in-Err-read_cut-clause-change g c =
    stopped {M = g.row.M.Denot} g.M.Machine.history g.M.Machine.faults c.args.store.now c.file_size.new.store c.read_cut.new.store c.args.ino (λ shelf file. cut_file shelf file c.args.size c.args.now) c.in-Err-read_cut.step
    (reads_both {M = g.row.M.Denot} g.M.Machine.history c.args.store.now c.file_size.new.store c.file_size.ensures.reads c.read_cut.new.store c.file_size.ensures.machine.unchanged c.read_cut.ensures.reads)
    c.file_size.ensures.machine.faults_most c.in-Err-read_cut.ensures.stops

pub returns-in-Err-read_cut-clause-machine : goal.returns-in-Err-read_cut-clause-machine
returns-in-Err-read_cut-clause-machine g c = reads_then {M = g.row.M.Denot} c.args.store.now.log.machine c.file_size.new.store.log.machine c.read_cut.new.store.log.machine c.file_size.ensures.machine c.read_cut.ensures.machine

pub returns-in-Err-make_room-clause-change : goal.returns-in-Err-make_room-clause-change
returns-in-Err-make_room-clause-change g c =
    let nodes = reads_both {M = g.row.M.Denot} g.M.Machine.history c.args.store.now c.file_size.new.store c.file_size.ensures.reads c.read_cut.new.store c.file_size.ensures.machine.unchanged c.read_cut.ensures.reads in
    let machine = reads_then {M = g.row.M.Denot} c.args.store.now.log.machine c.file_size.new.store.log.machine c.read_cut.new.store.log.machine c.file_size.ensures.machine c.read_cut.ensures.machine in
    stopped {M = g.row.M.Denot} g.M.Machine.history g.M.Machine.faults c.args.store.now c.read_cut.new.store c.make_room.new.store c.args.ino (λ shelf file. cut_file shelf file c.args.size c.args.now) c.in-Err-make_room.step
    (reads_both {M = g.row.M.Denot} g.M.Machine.history c.args.store.now c.read_cut.new.store nodes c.make_room.new.store machine.unchanged c.make_room.ensures.reads)
    machine.faults_most c.in-Err-make_room.ensures.stops

pub returns-in-Err-make_room-clause-machine : goal.returns-in-Err-make_room-clause-machine
returns-in-Err-make_room-clause-machine g c =
    let nodes = reads_both {M = g.row.M.Denot} g.M.Machine.history c.args.store.now c.file_size.new.store c.file_size.ensures.reads c.read_cut.new.store c.file_size.ensures.machine.unchanged c.read_cut.ensures.reads in
    let machine = reads_then {M = g.row.M.Denot} c.args.store.now.log.machine c.file_size.new.store.log.machine c.read_cut.new.store.log.machine c.file_size.ensures.machine c.read_cut.ensures.machine in
    reads_then {M = g.row.M.Denot} c.args.store.now.log.machine c.read_cut.new.store.log.machine c.make_room.new.store.log.machine machine c.make_room.ensures.machine

pub returns-clause-change : goal.returns-clause-change
returns-clause-change g c =
    let nodes = reads_both {M = g.row.M.Denot} g.M.Machine.history c.args.store.now c.file_size.new.store c.file_size.ensures.reads c.read_cut.new.store c.file_size.ensures.machine.unchanged c.read_cut.ensures.reads in
    let machine = reads_then {M = g.row.M.Denot} c.args.store.now.log.machine c.file_size.new.store.log.machine c.read_cut.new.store.log.machine c.file_size.ensures.machine c.read_cut.ensures.machine in
    let nodes_then = reads_both {M = g.row.M.Denot} g.M.Machine.history c.args.store.now c.read_cut.new.store nodes c.make_room.new.store machine.unchanged c.make_room.ensures.reads in
    let machine_then = reads_then {M = g.row.M.Denot} c.args.store.now.log.machine c.read_cut.new.store.log.machine c.make_room.new.store.log.machine machine c.make_room.ensures.machine in
    made_file {M = g.row.M.Denot} g.M.Machine.history c.args.store.now c.make_room.new.store c.put_cut.new.store c.args.ino
    (λ was. Some (patched (file_shape c.args.size) c.args.now (c.args.size / 4096) (if c.in-Ok-read_cut.is_cut then c.args.size / 4096 + 1 else c.args.size / 4096) (λ j. c.read_cut.new.edge) was))
    (λ shelf file. cut_file shelf file c.args.size c.args.now) nodes_then machine_then.unchanged c.put_cut.ensures.made
    (cut_same {M = g.row.M.Denot} g.M.Machine.history c.args.store.now c.file_size.new.store c.args.ino c.file_size.ensures.reads c.file_size.ensures.machine.unchanged c.read_cut.new.edge c.args.now c.in-Ok.before c.args.size c.in-Ok-read_cut.is_cut c.in-Ok.ensures.size c.in-Ok-read_cut.ensures.cut)

pub returns-clause-machine : goal.returns-clause-machine
returns-clause-machine g c =
    let nodes = reads_both {M = g.row.M.Denot} g.M.Machine.history c.args.store.now c.file_size.new.store c.file_size.ensures.reads c.read_cut.new.store c.file_size.ensures.machine.unchanged c.read_cut.ensures.reads in
    let machine = reads_then {M = g.row.M.Denot} c.args.store.now.log.machine c.file_size.new.store.log.machine c.read_cut.new.store.log.machine c.file_size.ensures.machine c.read_cut.ensures.machine in
    let nodes_then = reads_both {M = g.row.M.Denot} g.M.Machine.history c.args.store.now c.read_cut.new.store nodes c.make_room.new.store machine.unchanged c.make_room.ensures.reads in
    let machine_then = reads_then {M = g.row.M.Denot} c.args.store.now.log.machine c.read_cut.new.store.log.machine c.make_room.new.store.log.machine machine c.make_room.ensures.machine in
    reads_beside {M = g.row.M.Denot} c.args.store.now.log.machine c.make_room.new.store c.put_cut.new.store c.put_cut.ensures.made.beside machine_then

pub returns-in-Err-clause-beside : goal.returns-in-Err-clause-beside
returns-in-Err-clause-beside g c = unused_then {M = g.row.M.Denot} g.M.Machine.faults c.args.store.now c.args.store.now c.file_size.new.store c.args.ino c.args.now c.in-Err.step c.in-Err.ensures.stops

pub returns-in-Err-read_cut-clause-beside : goal.returns-in-Err-read_cut-clause-beside
returns-in-Err-read_cut-clause-beside g c = unused_then {M = g.row.M.Denot} g.M.Machine.faults c.args.store.now c.file_size.new.store c.read_cut.new.store c.args.ino c.args.now c.in-Err-read_cut.step c.in-Err-read_cut.ensures.stops

pub returns-in-Err-make_room-clause-beside : goal.returns-in-Err-make_room-clause-beside
returns-in-Err-make_room-clause-beside g c = unused_then {M = g.row.M.Denot} g.M.Machine.faults c.args.store.now c.read_cut.new.store c.make_room.new.store c.args.ino c.args.now c.in-Err-make_room.step c.in-Err-make_room.ensures.stops

pub returns-clause-beside : goal.returns-clause-beside
returns-clause-beside g c =
    let nodes = reads_both {M = g.row.M.Denot} g.M.Machine.history c.args.store.now c.file_size.new.store c.file_size.ensures.reads c.read_cut.new.store c.file_size.ensures.machine.unchanged c.read_cut.ensures.reads in
    let machine = reads_then {M = g.row.M.Denot} c.args.store.now.log.machine c.file_size.new.store.log.machine c.read_cut.new.store.log.machine c.file_size.ensures.machine c.read_cut.ensures.machine in
    let nodes_then = reads_both {M = g.row.M.Denot} g.M.Machine.history c.args.store.now c.read_cut.new.store nodes c.make_room.new.store machine.unchanged c.make_room.ensures.reads in
    beside_then {M = g.row.M.Denot} g.M.Machine.history c.args.store.now c.make_room.new.store c.put_cut.new.store c.args.ino c.args.now nodes_then c.put_cut.ensures.made.beside c.put_cut.ensures.uses
