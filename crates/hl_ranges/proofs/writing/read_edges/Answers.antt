use Rattle.std.proofs.Common.{◌+◌, ◌-◌, ◌/◌, length}
use Rattle.hl_ranges.specs.Writing.{ReadsEdges, ReadsSide}
use Rattle.hl_ranges.proofs.FoundFiles.{on_ok, edges_of_one, edges_of_two, reads_both, reads_then}
use Rattle.hl_ranges.proofs.writing.read_edges.Goals as goal

pub returns-then-first-last-clause-edges : goal.returns-then-first-last-clause-edges
returns-then-first-last-clause-edges g c = edges_of_one {M = g.row.M.Denot} g.M.Machine.history c.args.store.now c.read_side.new.store c.args.ino c.args.at c.args.bytes.now c.read_side.new.out c.args.back.now c.requires.some c.in_ok-read_side.ensures.block c.if-first-last.true

pub returns-clause-edges : goal.returns-clause-edges
returns-clause-edges g c = on_ok
    (ReadsSide {M = g.row.M.Denot} g.M.Machine.history c.read_side.new.store c.args.ino c.args.at c.args.bytes.now ((c.args.at + length c.args.bytes.now - 1) / 4096) c.read_side-2.new.out)
    (ReadsEdges {M = g.row.M.Denot} g.M.Machine.history c.args.store.now c.args.ino c.args.at c.args.bytes.now c.read_side.new.out c.read_side-2.new.out)
    c.read_side-2.result
    (edges_of_two {M = g.row.M.Denot} g.M.Machine.history c.args.store.now c.read_side.new.store c.args.ino c.args.at c.args.bytes.now c.read_side.new.out c.read_side-2.new.out c.requires.some c.in_ok-read_side.ensures.block c.read_side.ensures.reads c.read_side.ensures.machine.unchanged)
    c.read_side-2.ensures.block

pub returns-clause-reads : goal.returns-clause-reads
returns-clause-reads g c = reads_both {M = g.row.M.Denot} g.M.Machine.history c.args.store.now c.read_side.new.store c.read_side.ensures.reads c.read_side-2.new.store c.read_side.ensures.machine.unchanged c.read_side-2.ensures.reads

pub returns-clause-machine : goal.returns-clause-machine
returns-clause-machine g c = reads_then {M = g.row.M.Denot} c.args.store.now.log.machine c.read_side.new.store.log.machine c.read_side-2.new.store.log.machine c.read_side.ensures.machine c.read_side-2.ensures.machine
