use Rattle.std.proofs.Common.{ℕ, ◌<◌, ◌≤◌, subst}
use Rattle.hl_store.proofs.ReadRuns.{reads_then}
use Rattle.hl_ranges.proofs.CutRuns.{cut_found, cut_none, cuts-over, cuts-whole}
use Rattle.hl_ranges.proofs.NeedsThen.{size_found}
use Rattle.hl_ranges.proofs.ReadSteps.{reads_nodes_then}
use Rattle.hl_ranges.proofs.needs.cut_needs.Goals as goal

pub returns-then-before-size-clause-needs : goal.returns-then-before-size-clause-needs
returns-then-before-size-clause-needs g c =
    cut_none g.M.Machine.history g.M.Machine.blocks g.M.Machine.faults g.M.Machine.write_faults g.M.Machine.say_faults
    c.args.store.now c.node.new.self c.args.ino c.args.size c.args.tsegs.now.items c.node.ensures.reads c.node.ensures.machine c.node.new.self
    (λ h e contents lies shelf file lines has k. cuts-over file c.args.size k
    (subst (λ (n : ℕ). n ≤ c.args.size) (size_found g.M.Machine.history c.args.store.now c.args.ino c.in-Node.node c.in-Node.ensures.found h e contents lies shelf file lines has) c.if-before-size.true))

pub returns-then-size-eq0-clause-needs : goal.returns-then-size-eq0-clause-needs
returns-then-size-eq0-clause-needs g c =
    cut_none g.M.Machine.history g.M.Machine.blocks g.M.Machine.faults g.M.Machine.write_faults g.M.Machine.say_faults
    c.args.store.now c.node.new.self c.args.ino c.args.size c.args.tsegs.now.items c.node.ensures.reads c.node.ensures.machine c.node.new.self
    (λ h e contents lies shelf file lines has k. cuts-whole file c.args.size k c.if-size-eq0.true)

pub returns-clause-needs : goal.returns-clause-needs
returns-clause-needs g c =
    cut_found g.M.Machine.history g.M.Machine.blocks g.M.Machine.faults g.M.Machine.write_faults g.M.Machine.say_faults
    c.args.store.now c.node.new.self c.args.ino c.args.size c.args.tsegs.now.items c.node.ensures.reads c.node.ensures.machine
    c.add_need.new.store c.add_need.new.tsegs.items c.if-size-eq0.false
    (λ h e contents lies shelf file lines has.
    subst (λ (n : ℕ). c.args.size < n) (size_found g.M.Machine.history c.args.store.now c.args.ino c.in-Node.node c.in-Node.ensures.found h e contents lies shelf file lines has) c.if-before-size.false)
    c.add_need.result c.add_need.ensures.need c.add_need.ensures.reads c.add_need.ensures.machine

pub returns-clause-reads : goal.returns-clause-reads
returns-clause-reads g c = reads_nodes_then c.node.ensures.machine c.node.ensures.reads c.add_need.ensures.reads

pub returns-clause-machine : goal.returns-clause-machine
returns-clause-machine g c = reads_then c.node.ensures.machine c.add_need.ensures.machine
