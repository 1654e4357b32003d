use Rattle.std.proofs.Common.{◌≡◌, ◌/◌, arith, true}
use Rattle.hl_placed.specs.Changes.{meets}
use Rattle.hl_ranges.proofs.MeetLemmas.{meets-before, meets-behind, meets-empty, meets-inside}
use Rattle.hl_ranges.proofs.SerialLists.{unpicked}
use Rattle.hl_ranges.proofs.NeedRuns.{so_far_all, so_far_missing, so_far_more, so_far_none, so_far_skip}
use Rattle.hl_store.proofs.ReadRuns.{reads_then, rose_since}
use Rattle.hl_ranges.proofs.ReadSteps.{number_then, reads_nodes_then}
use Rattle.hl_ranges.proofs.needs.needs_between.Goals as goal

pub returns-then-end-at-clause-needs : goal.returns-then-end-at-clause-needs
returns-then-end-at-clause-needs g c =
    so_far_all g.M.Machine.history g.M.Machine.blocks g.M.Machine.faults g.M.Machine.write_faults g.M.Machine.say_faults
    c.args.store.now c.args.ino (λ file. meets c.args.at c.args.end) c.args.tsegs.now.items c.args.store.now c.args.tsegs.now.items 0
    (λ h e contents lies shelf file lines has k low. unpicked (meets c.args.at c.args.end) file k (meets-empty c.args.at c.args.end k c.if-end-at.true))
    (so_far_none g.M.Machine.history g.M.Machine.blocks g.M.Machine.faults g.M.Machine.write_faults g.M.Machine.say_faults
    c.args.store.now c.args.ino (λ file. meets c.args.at c.args.end) c.args.tsegs.now.items)

pub each-init : goal.each-init
each-init g c =
    so_far_skip g.M.Machine.history g.M.Machine.blocks g.M.Machine.faults g.M.Machine.write_faults g.M.Machine.say_faults
    c.args.store.now c.args.ino (λ file. meets c.args.at c.args.end) c.args.tsegs.now.items c.args.store.now c.args.tsegs.now.items 0 (c.args.at / 4096) (omega arith)
    (λ h e contents lies shelf file lines has k low high. unpicked (meets c.args.at c.args.end) file k (meets-before c.args.at c.args.end k (omega arith)))
    (so_far_none g.M.Machine.history g.M.Machine.blocks g.M.Machine.faults g.M.Machine.write_faults g.M.Machine.say_faults
    c.args.store.now c.args.ino (λ file. meets c.args.at c.args.end) c.args.tsegs.now.items)

pub add_need-requires : goal.add_need-requires
add_need-requires g c = record { number = number_then c.each.invariant.reads c.requires.number }

pub returns-in-Missing-clause-needs : goal.returns-in-Missing-clause-needs
returns-in-Missing-clause-needs g c =
    let is : meets c.args.at c.args.end c.each.i ≡ true = meets-inside c.args.at c.args.end c.each.i c.if-end-at.false (omega arith) (omega arith) in
    so_far_missing g.M.Machine.history g.M.Machine.blocks g.M.Machine.faults g.M.Machine.write_faults g.M.Machine.say_faults
    c.args.store.now c.args.ino (λ file. meets c.args.at c.args.end) c.args.tsegs.now.items c.each.store c.each.tsegs.items c.in-Missing.tseg c.each.i c.each.invariant
    (λ h e contents lies shelf file lines has. is) c.in-Missing.ensures.need

pub each-preserved : goal.each-preserved
each-preserved g c =
    let is : meets c.args.at c.args.end c.each.i ≡ true = meets-inside c.args.at c.args.end c.each.i c.if-end-at.false (omega arith) (omega arith) in
    so_far_more g.M.Machine.history g.M.Machine.blocks g.M.Machine.faults g.M.Machine.write_faults g.M.Machine.say_faults
    c.args.store.now c.args.ino (λ file. meets c.args.at c.args.end) c.args.tsegs.now.items c.each.store c.add_need.new.store c.each.tsegs.items c.add_need.new.tsegs.items c.each.i true c.each.invariant
    (λ h e contents lies shelf file lines has. is) c.in-AtHand.ensures.need c.in-AtHand.ensures.reads c.in-AtHand.ensures.machine

pub returns-clause-needs : goal.returns-clause-needs
returns-clause-needs g c =
    so_far_all g.M.Machine.history g.M.Machine.blocks g.M.Machine.faults g.M.Machine.write_faults g.M.Machine.say_faults
    c.args.store.now c.args.ino (λ file. meets c.args.at c.args.end) c.args.tsegs.now.items c.each.store c.each.tsegs.items c.each.i
    (λ h e contents lies shelf file lines has k low. unpicked (meets c.args.at c.args.end) file k (meets-behind c.args.at c.args.end k (omega arith)))
    c.each.invariant

pub returns-in-Missing-clause-reads : goal.returns-in-Missing-clause-reads
returns-in-Missing-clause-reads g c = reads_nodes_then c.each.invariant.machine c.each.invariant.reads c.in-Missing.ensures.reads

pub returns-in-Missing-clause-machine : goal.returns-in-Missing-clause-machine
returns-in-Missing-clause-machine g c = reads_then c.each.invariant.machine c.in-Missing.ensures.machine

pub returns-in-DiskFault-clause-needs : goal.returns-in-DiskFault-clause-needs
returns-in-DiskFault-clause-needs g c = rose_since _ _ _ c.each.invariant.machine.faults_most c.in-DiskFault.ensures.need

pub returns-in-DiskFault-clause-reads : goal.returns-in-DiskFault-clause-reads
returns-in-DiskFault-clause-reads g c = reads_nodes_then c.each.invariant.machine c.each.invariant.reads c.in-DiskFault.ensures.reads

pub returns-in-DiskFault-clause-machine : goal.returns-in-DiskFault-clause-machine
returns-in-DiskFault-clause-machine g c = reads_then c.each.invariant.machine c.in-DiskFault.ensures.machine

pub returns-in-Memory-clause-reads : goal.returns-in-Memory-clause-reads
returns-in-Memory-clause-reads g c = reads_nodes_then c.each.invariant.machine c.each.invariant.reads c.in-Memory.ensures.reads

pub returns-in-Memory-clause-machine : goal.returns-in-Memory-clause-machine
returns-in-Memory-clause-machine g c = reads_then c.each.invariant.machine c.in-Memory.ensures.machine
