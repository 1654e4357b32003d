use Rattle.std.proofs.Common.{ap, ◌∙◌, arith}
use Rattle.std.proofs.lemmas.List.{length-replicate}
use Rattle.hl_bytes.specs.Buffers.{block_of}
use Rattle.hl_addr.specs.Layout.{Layout}
use Rattle.hl_nodes.proofs.LaidTables.{laid_are_tables}
use Rattle.hl_found.specs.Found.{contents_found}
use Rattle.hl_found.proofs.LiveFound.{tables_listed, numbers_more, all_listed, have_pointers}
use Rattle.hl_found.proofs.live.live_blocks.Goals as goal

pub numbers-init : goal.numbers-init
numbers-init c =
    let one = rw c.items.ensures at c.in_ok-lives.ensures in
    tables_listed c.args.geometry.now (block_of c.args.image.now) c.args.found.now.tables c.args.found.now.rec c.in_ok-lives.lives.items one

pub blocks_of_number-requires-clause-inodes : goal.blocks_of_number-requires-clause-inodes
blocks_of_number-requires-clause-inodes c =
    let are = laid_are_tables c.args.geometry.now (block_of c.args.image.now) (contents_found c.args.found.now) c.requires.has in
    are.shape.inodes ∙ length-replicate c.args.geometry.now.inodes 4294967295

pub blocks_of_number-requires-clause-pointers : goal.blocks_of_number-requires-clause-pointers
blocks_of_number-requires-clause-pointers c = have_pointers c.args.geometry.now (block_of c.args.image.now) (contents_found c.args.found.now) c.requires.has

pub numbers-preserved : goal.numbers-preserved
numbers-preserved c =
    rw (c.in_ok-extend_from_slice.ensures.items, c.as_slice.ensures.value)
    (numbers_more c.args.geometry.now (block_of c.args.image.now) c.args.found.now.tables c.args.found.now.rec c.numbers.ino c.numbers.lives.items c.in_ok-more.more.items c.numbers.invariant c.in_ok-more.ensures)

pub returns : goal.returns
returns c =
    let e = ap (λ (x : Layout). x.inodes) c.geometry.view_is in
    all_listed c.args.geometry.now (block_of c.args.image.now) c.args.found.now.tables c.args.found.now.rec c.numbers.ino c.numbers.lives.items (omega (arith, e, c.numbers-test.false)) c.numbers.invariant
