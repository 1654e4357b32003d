use Rattle.hl_store.proofs.ReadRuns.{reads_then}
use Rattle.hl_ranges.proofs.NeedsThen.{size_found}
use Rattle.hl_ranges.proofs.ReadRange.{range_read}
use Rattle.hl_ranges.proofs.ReadSteps.{reads_nodes_then}
use Rattle.hl_ranges.proofs.reading.read_range.Goals as goal

pub returns-clause-range : goal.returns-clause-range
returns-clause-range g c =
    range_read c.node.ensures.reads c.node.ensures.machine c.read_between.new.store c.args.ino c.args.at c.args.len c.in-Node.node.size c.min.result c.min-end.result
    c.min-end.ensures c.min.ensures (size_found g.M.Machine.history c.args.store.now c.args.ino c.in-Node.node c.in-Node.ensures.found)
    c.args.out.now.items c.read_between.new.out.items c.read_between.result c.read_between.ensures.part

pub returns-clause-reads : goal.returns-clause-reads
returns-clause-reads g c = reads_nodes_then c.node.ensures.machine c.node.ensures.reads c.read_between.ensures.reads

pub returns-clause-machine : goal.returns-clause-machine
returns-clause-machine g c = reads_then c.node.ensures.machine c.read_between.ensures.machine
