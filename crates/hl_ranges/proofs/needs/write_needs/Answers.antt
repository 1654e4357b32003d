use Rattle.std.proofs.Common.{◌+◌, ◌-◌, ◌/◌, ◌≤◌, ℕ, length, arith, sym, subst}
use Rattle.hl_store.proofs.ReadRuns.{reads_then}
use Rattle.hl_ranges.proofs.NeedRuns.{NeedsSoFar}
use Rattle.hl_ranges.proofs.PartlyRuns.{partly, partly_all, partly_empty, partly_first, partly_found, partly_last, partly_missing, partly_more}
use Rattle.hl_ranges.proofs.ReadSteps.{reads_nodes_then}
use Rattle.hl_ranges.proofs.needs.write_needs.Goals as goal

pub returns-then-end-at-clause-needs : goal.returns-then-end-at-clause-needs
returns-then-end-at-clause-needs g c =
    partly_empty g.M.Machine.history g.M.Machine.blocks g.M.Machine.faults g.M.Machine.write_faults g.M.Machine.say_faults
    c.args.store.now c.args.ino c.args.at (c.args.at + length c.args.bytes.now) c.args.tsegs.now.items c.if-end-at.true

pub returns-in-Missing-clause-needs : goal.returns-in-Missing-clause-needs
returns-in-Missing-clause-needs g c =
    partly_missing g.M.Machine.history g.M.Machine.blocks g.M.Machine.faults g.M.Machine.write_faults g.M.Machine.say_faults
    c.args.store.now c.args.ino c.args.at (c.args.at + length c.args.bytes.now) c.args.tsegs.now.items
    c.args.store.now c.add_partly.new.store c.args.tsegs.now.items c.add_partly.new.tsegs.items c.in-Missing.tseg (c.args.at / 4096)
    (partly_first g.M.Machine.history g.M.Machine.blocks g.M.Machine.faults g.M.Machine.write_faults g.M.Machine.say_faults
    c.args.store.now c.args.ino c.args.at (c.args.at + length c.args.bytes.now) c.args.tsegs.now.items)
    c.in-Missing.ensures.need

pub returns-then-last-first-clause-needs : goal.returns-then-last-first-clause-needs
returns-then-last-first-clause-needs g c =
    let run = partly_more g.M.Machine.history g.M.Machine.blocks g.M.Machine.faults g.M.Machine.write_faults g.M.Machine.say_faults
    c.args.store.now c.args.ino c.args.at (c.args.at + length c.args.bytes.now) c.args.tsegs.now.items
    c.args.store.now c.add_partly.new.store c.args.tsegs.now.items c.add_partly.new.tsegs.items (c.args.at / 4096)
    (partly_first g.M.Machine.history g.M.Machine.blocks g.M.Machine.faults g.M.Machine.write_faults g.M.Machine.say_faults
    c.args.store.now c.args.ino c.args.at (c.args.at + length c.args.bytes.now) c.args.tsegs.now.items)
    c.in-AtHand.ensures.need c.in-AtHand.ensures.reads c.in-AtHand.ensures.machine in
    partly_all g.M.Machine.history g.M.Machine.blocks g.M.Machine.faults g.M.Machine.write_faults g.M.Machine.say_faults
    c.args.store.now c.args.ino c.args.at (c.args.at + length c.args.bytes.now) c.args.tsegs.now.items
    c.add_partly.new.store c.add_partly.new.store c.add_partly.new.tsegs.items c.if-end-at.false
    (subst (λ (n : ℕ). NeedsSoFar g.M.Machine.history g.M.Machine.blocks g.M.Machine.faults g.M.Machine.write_faults g.M.Machine.say_faults
    c.args.store.now c.add_partly.new.store c.args.ino
    (λ file. partly c.args.at (c.args.at + length c.args.bytes.now))
    c.args.tsegs.now.items c.add_partly.new.tsegs.items (n + 1)) (sym c.if-last-first.true) run)

pub returns-clause-needs : goal.returns-clause-needs
returns-clause-needs g c =
    let run = partly_more g.M.Machine.history g.M.Machine.blocks g.M.Machine.faults g.M.Machine.write_faults g.M.Machine.say_faults
    c.args.store.now c.args.ino c.args.at (c.args.at + length c.args.bytes.now) c.args.tsegs.now.items
    c.args.store.now c.add_partly.new.store c.args.tsegs.now.items c.add_partly.new.tsegs.items (c.args.at / 4096)
    (partly_first g.M.Machine.history g.M.Machine.blocks g.M.Machine.faults g.M.Machine.write_faults g.M.Machine.say_faults
    c.args.store.now c.args.ino c.args.at (c.args.at + length c.args.bytes.now) c.args.tsegs.now.items)
    c.in-AtHand.ensures.need c.in-AtHand.ensures.reads c.in-AtHand.ensures.machine in
    let less : c.args.at / 4096 + 1 ≤ (c.args.at + length c.args.bytes.now - 1) / 4096 = omega (arith, c.if-last-first.false) in
    partly_found g.M.Machine.history g.M.Machine.blocks g.M.Machine.faults g.M.Machine.write_faults g.M.Machine.say_faults
    c.args.store.now c.args.ino c.args.at (c.args.at + length c.args.bytes.now) c.args.tsegs.now.items
    c.add_partly.new.store c.add_partly-2.new.store c.add_partly.new.tsegs.items c.add_partly-2.new.tsegs.items c.if-end-at.false
    (partly_last g.M.Machine.history g.M.Machine.blocks g.M.Machine.faults g.M.Machine.write_faults g.M.Machine.say_faults
    c.args.store.now c.args.ino c.args.at (c.args.at + length c.args.bytes.now) c.args.tsegs.now.items
    c.add_partly.new.store c.add_partly.new.tsegs.items c.if-end-at.false less run)
    c.add_partly-2.result c.add_partly-2.ensures.need c.add_partly-2.ensures.reads c.add_partly-2.ensures.machine

pub returns-clause-reads : goal.returns-clause-reads
returns-clause-reads g c = reads_nodes_then c.add_partly.ensures.machine c.add_partly.ensures.reads c.add_partly-2.ensures.reads

pub returns-clause-machine : goal.returns-clause-machine
returns-clause-machine g c = reads_then c.add_partly.ensures.machine c.add_partly-2.ensures.machine
