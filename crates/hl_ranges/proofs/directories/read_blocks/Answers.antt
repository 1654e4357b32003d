use Rattle.std.proofs.Common.{◌≡◌, ◌+◌, ◌*◌, ◌<◌, ◌≤◌, length, refl, sym, subst, arith}
use Rattle.hl_store.proofs.ReadRuns.{reads_then, rose_since}
use Rattle.hl_ranges.proofs.ReadSteps.{number_then, reads_nodes_then}
use Rattle.hl_ranges.proofs.DirectoryReads.{block_own, blocks_more, blocks_none}
use Rattle.hl_ranges.proofs.directories.read_blocks.Goals as goal

pub each-init : goal.each-init
each-init g c =
    blocks_none g.M.Machine.history g.M.Machine.blocks g.M.Machine.faults g.M.Machine.write_faults g.M.Machine.say_faults c.args.store.now c.args.ino c.args.bytes.now

pub block-requires-clause-number : goal.block-requires-clause-number
block-requires-clause-number g c = number_then c.each.invariant.reads c.requires.number

pub returns-in-DiskFault-clause-blocks : goal.returns-in-DiskFault-clause-blocks
returns-in-DiskFault-clause-blocks g c = rose_since _ _ _ c.each.invariant.machine.faults_most c.in-DiskFault.ensures.found

pub returns-in-DiskFault-clause-reads : goal.returns-in-DiskFault-clause-reads
returns-in-DiskFault-clause-reads g c = reads_nodes_then c.each.invariant.machine c.each.invariant.reads c.in-DiskFault.ensures.reads

pub returns-in-DiskFault-clause-machine : goal.returns-in-DiskFault-clause-machine
returns-in-DiskFault-clause-machine g c = reads_then c.each.invariant.machine c.in-DiskFault.ensures.machine

pub returns-in-Away-clause-reads : goal.returns-in-Away-clause-reads
returns-in-Away-clause-reads g c = reads_nodes_then c.each.invariant.machine c.each.invariant.reads c.block.ensures.reads

pub returns-in-Away-clause-machine : goal.returns-in-Away-clause-machine
returns-in-Away-clause-machine g c = reads_then c.each.invariant.machine c.block.ensures.machine

pub each-preserved : goal.each-preserved
each-preserved g c =
    let high : 4096 * c.each.i + 4096 ≤ length c.each.bytes = omega arith in
    blocks_more g.M.Machine.history g.M.Machine.blocks g.M.Machine.faults g.M.Machine.write_faults g.M.Machine.say_faults c.args.store.now c.args.ino
    c.each.store c.block.new.self c.each.i (4096 * c.each.i) (4096 * c.each.i + 4096) c.each.bytes c.block.new.out c.each.invariant refl refl c.block.ensures.size high
    (block_own g.M.Machine.history g.M.Machine.faults c.each.store c.block.new.self c.args.ino c.each.i c.block.new.out c.block.result c.in-Bytes.is c.block.ensures.found)
    c.block.ensures.reads c.block.ensures.machine

pub returns-clause-blocks : goal.returns-clause-blocks
returns-clause-blocks g c =
    let end : c.each.i ≡ c.args.count = omega arith in
    λ h told contents lies i k own lt. c.each.invariant.place h told contents lies i k own (subst (λ n. i < n) (sym end) lt)

pub returns-clause-reads : goal.returns-clause-reads
returns-clause-reads g c = c.each.invariant.reads

pub returns-clause-machine : goal.returns-clause-machine
returns-clause-machine g c = c.each.invariant.machine
