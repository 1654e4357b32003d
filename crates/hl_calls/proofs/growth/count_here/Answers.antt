use Rattle.std.proofs.Common.{◌≡◌, ◌+◌, ℕ, true, false, add-zero, arith, subst}
use Rattle.hl_calls.specs.Residents.{here_below}
use Rattle.hl_placed.specs.Blocks.{file_block}
use Rattle.hl_store.proofs.ReadRuns.{rose_since}
use Rattle.hl_calls.proofs.FileReads.{number_then, read_more, read_none}
use Rattle.hl_calls.proofs.BlockCounts.{counted, place_here, place_not_here}
use Rattle.hl_calls.proofs.growth.count_here.Goals as goal
use Rattle.hl_calls.proofs.growth.count_here.Goals.{in-Here, in-Hole}

pub each-init : goal.each-init
each-init g c = record {
  behind = read_none c.args.store.now;
  low = omega arith;
  few = omega arith;
  counts = λ h e contents lies shelf file lines has. add-zero (here_below (file_block file) c.args.from);
}

pub place-requires : goal.place-requires
place-requires g c = record { number = number_then c.each.invariant.behind c.requires.number }

pub each-preserved : goal.each-preserved
each-preserved g c = record {
  behind = read_more c.each.invariant.behind c.place.ensures.reads c.place.ensures.machine;
  low = omega arith;
  few = elim c.match-place.branch [
    | in-Here w ↦ omega (arith, w.count-is)
    | in-Hole w ↦ omega (arith, w.count-is)
  ];
  counts = elim c.match-place.branch [
    | in-Here w ↦
        counted c.each.invariant.behind c.args.ino c.args.from c.each.i c.each.count c.match-place.count true w.count-is
        (place_here g.M.Machine.history g.M.Machine.faults c.each.store c.place.new.self c.args.ino c.each.i c.place.result c.place.ensures.found w.in-Here.is)
        c.each.invariant.counts
    | in-Hole w ↦
        let same : c.match-place.count ≡ c.each.count + 0 = omega (arith, w.count-is) in
        counted c.each.invariant.behind c.args.ino c.args.from c.each.i c.each.count c.match-place.count false same
        (place_not_here g.M.Machine.history g.M.Machine.faults c.each.store c.place.new.self c.args.ino c.each.i c.place.result c.place.ensures.found w.in-Hole.is)
        c.each.invariant.counts
  ];
}

pub returns-in-DiskFault-clause-stops : goal.returns-in-DiskFault-clause-stops
returns-in-DiskFault-clause-stops g c = rose_since _ _ _ c.each.invariant.behind.machine.faults_most c.in-DiskFault.ensures.found

pub returns-in-DiskFault-clause-reads : goal.returns-in-DiskFault-clause-reads
returns-in-DiskFault-clause-reads g c = (read_more c.each.invariant.behind c.in-DiskFault.ensures.reads c.in-DiskFault.ensures.machine).reads

pub returns-in-DiskFault-clause-machine : goal.returns-in-DiskFault-clause-machine
returns-in-DiskFault-clause-machine g c = (read_more c.each.invariant.behind c.in-DiskFault.ensures.reads c.in-DiskFault.ensures.machine).machine

pub returns-in-Memory-clause-reads : goal.returns-in-Memory-clause-reads
returns-in-Memory-clause-reads g c = (read_more c.each.invariant.behind c.in-Memory.ensures.reads c.in-Memory.ensures.machine).reads

pub returns-in-Memory-clause-machine : goal.returns-in-Memory-clause-machine
returns-in-Memory-clause-machine g c = (read_more c.each.invariant.behind c.in-Memory.ensures.reads c.in-Memory.ensures.machine).machine

pub returns-clause-count : goal.returns-clause-count
returns-clause-count g c =
    let last : c.each.i ≡ c.args.end = omega arith in
    λ h e contents lies shelf file lines has.
    subst (λ (n : ℕ). here_below (file_block file) c.args.from + c.each.count ≡ here_below (file_block file) n) last (c.each.invariant.counts h e contents lies shelf file lines has)

pub returns-clause-most : goal.returns-clause-most
returns-clause-most g c = omega arith

pub returns-clause-reads : goal.returns-clause-reads
returns-clause-reads g c = c.each.invariant.behind.reads

pub returns-clause-machine : goal.returns-clause-machine
returns-clause-machine g c = c.each.invariant.behind.machine
