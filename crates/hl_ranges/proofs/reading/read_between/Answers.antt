use Rattle.std.proofs.Common.{◌≤◌, length, ◌∙◌, arith, ap}
use Rattle.hl_store.proofs.ReadRuns.{reads_then, rose_since}
use Rattle.hl_ranges.proofs.ReadRange.{cut_back, read_none, so_far_done, so_far_part, so_far_start}
use Rattle.hl_ranges.proofs.ReadSteps.{number_then, reads_nodes_then}
use Rattle.hl_ranges.proofs.reading.read_between.Goals as goal

pub returns-then-end-at-clause-part : goal.returns-then-end-at-clause-part
returns-then-end-at-clause-part g c =
    read_none g.M.Machine.history g.M.Machine.blocks g.M.Machine.faults g.M.Machine.write_faults g.M.Machine.say_faults
    c.args.store.now c.args.ino c.args.at c.args.out.now.items c.args.end c.if-end-at.true

pub parts-init : goal.parts-init
parts-init g c = record {
  low = omega arith;
  high = omega arith;
  long = ap length (c.as_slice-before.ensures.value ∙ c.reserve.ensures.items);
  run = so_far_start g.M.Machine.history g.M.Machine.blocks g.M.Machine.faults g.M.Machine.write_faults g.M.Machine.say_faults
      c.args.store.now c.args.ino c.args.at c.args.out.now.items c.reserve.new.self.items c.reserve.ensures.items;
}

pub read_part-requires-clause-number : goal.read_part-requires-clause-number
read_part-requires-clause-number g c = number_then c.parts.invariant.run.reads c.requires.number

pub returns-in-DiskFault-clause-part : goal.returns-in-DiskFault-clause-part
returns-in-DiskFault-clause-part g c = (
  c.truncate.ensures.items ∙ cut_back c.args.out.now.items c.parts.invariant.run.own c.read_part.new.out.items (length c.as_slice-before.result.now) (c.in-DiskFault.ensures.part.0 ∙ c.parts.invariant.run.is) c.parts.invariant.long,
  rose_since _ _ _ c.parts.invariant.run.machine.faults_most c.in-DiskFault.ensures.part.1,
)

pub returns-in-DiskFault-clause-reads : goal.returns-in-DiskFault-clause-reads
returns-in-DiskFault-clause-reads g c = reads_nodes_then c.parts.invariant.run.machine c.parts.invariant.run.reads c.in-DiskFault.ensures.reads

pub returns-in-DiskFault-clause-machine : goal.returns-in-DiskFault-clause-machine
returns-in-DiskFault-clause-machine g c = reads_then c.parts.invariant.run.machine c.in-DiskFault.ensures.machine

pub returns-in-Memory-clause-part : goal.returns-in-Memory-clause-part
returns-in-Memory-clause-part g c =
    c.truncate-in-Memory.ensures.items ∙ cut_back c.args.out.now.items c.parts.invariant.run.own c.read_part.new.out.items (length c.as_slice-before.result.now) (c.in-Memory.ensures.part ∙ c.parts.invariant.run.is) c.parts.invariant.long

pub returns-in-Memory-clause-reads : goal.returns-in-Memory-clause-reads
returns-in-Memory-clause-reads g c = reads_nodes_then c.parts.invariant.run.machine c.parts.invariant.run.reads c.in-Memory.ensures.reads

pub returns-in-Memory-clause-machine : goal.returns-in-Memory-clause-machine
returns-in-Memory-clause-machine g c = reads_then c.parts.invariant.run.machine c.in-Memory.ensures.machine

pub parts-preserved : goal.parts-preserved
parts-preserved g c =
    let forward : c.parts.from ≤ c.min-to.result = omega arith in
    let top : c.min-to.result ≤ c.args.end = omega arith in
    let base : c.args.at ≤ c.min-to.result = omega arith in
    record {
      low = base;
      high = top;
      long = c.parts.invariant.long;
      run = so_far_part g.M.Machine.history g.M.Machine.blocks g.M.Machine.faults g.M.Machine.write_faults g.M.Machine.say_faults
          c.args.store.now c.args.ino c.args.at c.args.out.now.items c.parts.store c.read_part.new.store c.parts.from c.min-to.result c.parts.out.items c.read_part.new.out.items
          c.parts.invariant.low forward c.parts.invariant.run c.in-Done.ensures.part c.in-Done.ensures.reads c.in-Done.ensures.machine;
    }

pub returns-clause-part : goal.returns-clause-part
returns-clause-part g c =
    so_far_done g.M.Machine.history g.M.Machine.blocks g.M.Machine.faults g.M.Machine.write_faults g.M.Machine.say_faults
    c.args.store.now c.args.ino c.args.at c.args.out.now.items c.parts.store c.parts.from c.args.end c.parts.out.items (omega arith) c.parts.invariant.run
