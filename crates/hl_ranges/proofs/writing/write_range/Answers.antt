use Rattle.std.proofs.Common.{◌+◌, ◌/◌, length, Some}
use Rattle.hl_placed.specs.Changes.{written_file}
use Rattle.hl_ranges.specs.Files.{file_shape}
use Rattle.hl_ranges.specs.Writing.{new_block, patched}
use Rattle.hl_ranges.proofs.FoundFiles.{reads_both, reads_then}
use Rattle.hl_ranges.proofs.PutSteps.{made_file}
use Rattle.hl_ranges.proofs.FileChanges.{beside_then, reads_beside, stopped, unused_then, written_same}
use Rattle.hl_ranges.proofs.writing.write_range.Goals as goal

pub returns-in-Err-read_edges-clause-change : goal.returns-in-Err-read_edges-clause-change
returns-in-Err-read_edges-clause-change g c =
    stopped {M = g.row.M.Denot} g.M.Machine.history g.M.Machine.faults c.args.store.now c.file_size.new.store c.read_edges.new.store c.args.ino (λ shelf file. written_file shelf file c.args.at c.args.bytes.now c.args.now) c.in-Err-read_edges.step
    (reads_both {M = g.row.M.Denot} g.M.Machine.history c.args.store.now c.file_size.new.store c.file_size.ensures.reads c.read_edges.new.store c.file_size.ensures.machine.unchanged c.read_edges.ensures.reads)
    c.file_size.ensures.machine.faults_most c.in-Err-read_edges.ensures.stops

pub returns-in-Err-read_edges-clause-machine : goal.returns-in-Err-read_edges-clause-machine
returns-in-Err-read_edges-clause-machine g c = reads_then {M = g.row.M.Denot} c.args.store.now.log.machine c.file_size.new.store.log.machine c.read_edges.new.store.log.machine c.file_size.ensures.machine c.read_edges.ensures.machine

pub returns-in-Err-make_room-clause-change : goal.returns-in-Err-make_room-clause-change
returns-in-Err-make_room-clause-change g c =
    let nodes = reads_both {M = g.row.M.Denot} g.M.Machine.history c.args.store.now c.file_size.new.store c.file_size.ensures.reads c.read_edges.new.store c.file_size.ensures.machine.unchanged c.read_edges.ensures.reads in
    let machine = reads_then {M = g.row.M.Denot} c.args.store.now.log.machine c.file_size.new.store.log.machine c.read_edges.new.store.log.machine c.file_size.ensures.machine c.read_edges.ensures.machine in
    stopped {M = g.row.M.Denot} g.M.Machine.history g.M.Machine.faults c.args.store.now c.read_edges.new.store c.make_room.new.store c.args.ino (λ shelf file. written_file shelf file c.args.at c.args.bytes.now c.args.now) c.in-Err-make_room.step
    (reads_both {M = g.row.M.Denot} g.M.Machine.history c.args.store.now c.read_edges.new.store nodes c.make_room.new.store machine.unchanged c.make_room.ensures.reads)
    machine.faults_most c.in-Err-make_room.ensures.stops

pub returns-in-Err-make_room-clause-machine : goal.returns-in-Err-make_room-clause-machine
returns-in-Err-make_room-clause-machine g c =
    let nodes = reads_both {M = g.row.M.Denot} g.M.Machine.history c.args.store.now c.file_size.new.store c.file_size.ensures.reads c.read_edges.new.store c.file_size.ensures.machine.unchanged c.read_edges.ensures.reads in
    let machine = reads_then {M = g.row.M.Denot} c.args.store.now.log.machine c.file_size.new.store.log.machine c.read_edges.new.store.log.machine c.file_size.ensures.machine c.read_edges.ensures.machine in
    reads_then {M = g.row.M.Denot} c.args.store.now.log.machine c.read_edges.new.store.log.machine c.make_room.new.store.log.machine machine c.make_room.ensures.machine

pub returns-clause-change : goal.returns-clause-change
returns-clause-change g c =
    let nodes = reads_both {M = g.row.M.Denot} g.M.Machine.history c.args.store.now c.file_size.new.store c.file_size.ensures.reads c.read_edges.new.store c.file_size.ensures.machine.unchanged c.read_edges.ensures.reads in
    let machine = reads_then {M = g.row.M.Denot} c.args.store.now.log.machine c.file_size.new.store.log.machine c.read_edges.new.store.log.machine c.file_size.ensures.machine c.read_edges.ensures.machine in
    let nodes_then = reads_both {M = g.row.M.Denot} g.M.Machine.history c.args.store.now c.read_edges.new.store nodes c.make_room.new.store machine.unchanged c.make_room.ensures.reads in
    let machine_then = reads_then {M = g.row.M.Denot} c.args.store.now.log.machine c.read_edges.new.store.log.machine c.make_room.new.store.log.machine machine c.make_room.ensures.machine in
    made_file {M = g.row.M.Denot} g.M.Machine.history c.args.store.now c.make_room.new.store c.put_written.new.store c.args.ino
    (λ was. Some (patched (file_shape c.max.result) c.args.now (c.args.at / 4096) ((c.args.at + length c.args.bytes.now + 4095) / 4096) (new_block c.args.at c.args.bytes.now c.read_edges.new.front c.read_edges.new.back) was))
    (λ shelf file. written_file shelf file c.args.at c.args.bytes.now c.args.now) nodes_then machine_then.unchanged c.put_written.ensures.made
    (written_same {M = g.row.M.Denot} g.M.Machine.history c.args.store.now c.file_size.new.store c.args.ino c.file_size.ensures.reads c.file_size.ensures.machine.unchanged c.args.at c.args.bytes.now c.read_edges.new.front c.read_edges.new.back c.args.now c.in-Ok.size c.max.result c.requires.some c.in-Ok.ensures.size c.max.ensures c.in-Ok-read_edges.ensures.edges)

pub returns-clause-machine : goal.returns-clause-machine
returns-clause-machine g c =
    let nodes = reads_both {M = g.row.M.Denot} g.M.Machine.history c.args.store.now c.file_size.new.store c.file_size.ensures.reads c.read_edges.new.store c.file_size.ensures.machine.unchanged c.read_edges.ensures.reads in
    let machine = reads_then {M = g.row.M.Denot} c.args.store.now.log.machine c.file_size.new.store.log.machine c.read_edges.new.store.log.machine c.file_size.ensures.machine c.read_edges.ensures.machine in
    let nodes_then = reads_both {M = g.row.M.Denot} g.M.Machine.history c.args.store.now c.read_edges.new.store nodes c.make_room.new.store machine.unchanged c.make_room.ensures.reads in
    let machine_then = reads_then {M = g.row.M.Denot} c.args.store.now.log.machine c.read_edges.new.store.log.machine c.make_room.new.store.log.machine machine c.make_room.ensures.machine in
    reads_beside {M = g.row.M.Denot} c.args.store.now.log.machine c.make_room.new.store c.put_written.new.store c.put_written.ensures.made.beside machine_then

pub returns-in-Err-clause-beside : goal.returns-in-Err-clause-beside
returns-in-Err-clause-beside g c = unused_then {M = g.row.M.Denot} g.M.Machine.faults c.args.store.now c.args.store.now c.file_size.new.store c.args.ino c.args.now c.in-Err.step c.in-Err.ensures.stops

pub returns-in-Err-read_edges-clause-beside : goal.returns-in-Err-read_edges-clause-beside
returns-in-Err-read_edges-clause-beside g c = unused_then {M = g.row.M.Denot} g.M.Machine.faults c.args.store.now c.file_size.new.store c.read_edges.new.store c.args.ino c.args.now c.in-Err-read_edges.step c.in-Err-read_edges.ensures.stops

pub returns-in-Err-make_room-clause-beside : goal.returns-in-Err-make_room-clause-beside
returns-in-Err-make_room-clause-beside g c = unused_then {M = g.row.M.Denot} g.M.Machine.faults c.args.store.now c.read_edges.new.store c.make_room.new.store c.args.ino c.args.now c.in-Err-make_room.step c.in-Err-make_room.ensures.stops

pub returns-clause-beside : goal.returns-clause-beside
returns-clause-beside g c =
    let nodes = reads_both {M = g.row.M.Denot} g.M.Machine.history c.args.store.now c.file_size.new.store c.file_size.ensures.reads c.read_edges.new.store c.file_size.ensures.machine.unchanged c.read_edges.ensures.reads in
    let machine = reads_then {M = g.row.M.Denot} c.args.store.now.log.machine c.file_size.new.store.log.machine c.read_edges.new.store.log.machine c.file_size.ensures.machine c.read_edges.ensures.machine in
    let nodes_then = reads_both {M = g.row.M.Denot} g.M.Machine.history c.args.store.now c.read_edges.new.store nodes c.make_room.new.store machine.unchanged c.make_room.ensures.reads in
    beside_then {M = g.row.M.Denot} g.M.Machine.history c.args.store.now c.make_room.new.store c.put_written.new.store c.args.ino c.args.now nodes_then c.put_written.ensures.made.beside c.put_written.ensures.uses
