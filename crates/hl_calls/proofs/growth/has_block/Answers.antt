use Rattle.std.proofs.Common.{arith}
use Rattle.hl_store.proofs.ReadRuns.{rose_since}
use Rattle.hl_calls.proofs.FileReads.{number_then, read_more, read_none}
use Rattle.hl_calls.proofs.BlockCounts.{met, passed_hole, place_no_hole}
use Rattle.hl_calls.proofs.growth.has_block.Goals as goal

pub each-init : goal.each-init
each-init g c = record {
  behind = read_none c.args.store.now;
  holes = λ h e contents lies shelf file lines has k low high. absurd (omega arith);
}

pub place-requires : goal.place-requires
place-requires g c = record { number = number_then c.each.invariant.behind c.requires.number }

pub each-preserved : goal.each-preserved
each-preserved g c = record {
  behind = read_more c.each.invariant.behind c.place.ensures.reads c.place.ensures.machine;
  holes = passed_hole c.each.invariant.behind c.args.ino c.args.from c.each.i c.in-Hole.ensures.found c.each.invariant.holes;
}

pub returns-in-Here-clause-found : goal.returns-in-Here-clause-found
returns-in-Here-clause-found g c =
    met c.each.invariant.behind c.args.ino c.args.from c.each.i c.args.end c.each.auto.i c.each-test.true
    (place_no_hole g.M.Machine.history g.M.Machine.faults c.each.store c.place.new.self c.args.ino c.each.i c.place.result c.place.ensures.found c.in-Here.is)

pub returns-in-Here-clause-reads : goal.returns-in-Here-clause-reads
returns-in-Here-clause-reads g c = (read_more c.each.invariant.behind c.place.ensures.reads c.place.ensures.machine).reads

pub returns-in-Here-clause-machine : goal.returns-in-Here-clause-machine
returns-in-Here-clause-machine g c = (read_more c.each.invariant.behind c.place.ensures.reads c.place.ensures.machine).machine

pub returns-in-DiskFault-clause-stops : goal.returns-in-DiskFault-clause-stops
returns-in-DiskFault-clause-stops g c = rose_since _ _ _ c.each.invariant.behind.machine.faults_most c.in-DiskFault.ensures.found

pub returns-in-DiskFault-clause-reads : goal.returns-in-DiskFault-clause-reads
returns-in-DiskFault-clause-reads g c = (read_more c.each.invariant.behind c.in-DiskFault.ensures.reads c.in-DiskFault.ensures.machine).reads

pub returns-in-DiskFault-clause-machine : goal.returns-in-DiskFault-clause-machine
returns-in-DiskFault-clause-machine g c = (read_more c.each.invariant.behind c.in-DiskFault.ensures.reads c.in-DiskFault.ensures.machine).machine

pub returns-in-Memory-clause-reads : goal.returns-in-Memory-clause-reads
returns-in-Memory-clause-reads g c = (read_more c.each.invariant.behind c.in-Memory.ensures.reads c.in-Memory.ensures.machine).reads

pub returns-in-Memory-clause-machine : goal.returns-in-Memory-clause-machine
returns-in-Memory-clause-machine g c = (read_more c.each.invariant.behind c.in-Memory.ensures.reads c.in-Memory.ensures.machine).machine

pub returns-clause-found : goal.returns-clause-found
returns-clause-found g c = λ h e contents lies shelf file lines has k low high. c.each.invariant.holes h e contents lies shelf file lines has k low (omega arith)

pub returns-clause-reads : goal.returns-clause-reads
returns-clause-reads g c = c.each.invariant.behind.reads

pub returns-clause-machine : goal.returns-clause-machine
returns-clause-machine g c = c.each.invariant.behind.machine
