use Rattle.std.specs.FinMap.{get}
use Rattle.std.proofs.Common.{◌<◌, ◌≤◌, ap, arith}
use Rattle.std.specs.Prelude.{slice_index}
use Rattle.hl_bytes.specs.Buffers.{block_of}
use Rattle.hl_addr.specs.Layout.{Layout}
use Rattle.hl_nodes.proofs.EntryLemmas.{no_entry}
use Rattle.hl_nodes.proofs.FoundNodes.{nodes_found-are}
use Rattle.hl_nodes.proofs.counting.nodes_of.Goals as goal

pub returns-in-None : goal.returns-in-None
returns-in-None c nodes has =
    let g = c.args.geometry.now in
    let ino = c.numbers.ino in
    let low : 1 ≤ ino = omega arith in
    let high : ino < g.inodes = (let e = ap (λ (x : Layout). x.inodes) c.geometry.view_is in omega (arith, e, c.numbers-test.true)) in
    no_entry g c.args.tables.now.slots (block_of c.args.image.now) ino (slice_index c.args.tables.now.inodes ino) c.in_ok-node.field-0 c.in-None.is c.in_ok-node.ensures (get nodes ino) (has.entries ino low high)

pub returns : goal.returns
returns c =
    let g = c.args.geometry.now in
    let inodes = ap (λ (x : Layout). x.inodes) c.geometry.view_is in
    nodes_found-are g (block_of c.args.image.now) c.args.tables.now c.numbers.nodes.items
    (omega (arith, inodes, c.numbers.invariant.count, c.numbers.auto.ino))
    c.numbers.invariant.zero
    (λ ino low high. c.numbers.invariant.entries ino low (omega (arith, inodes, c.numbers-test.false)))
