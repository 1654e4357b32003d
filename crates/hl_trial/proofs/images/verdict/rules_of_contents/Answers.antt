use Rattle.std.proofs.Common.{arith}
use Rattle.hl_addr.specs.Layout.{IsInodeCount}
use Rattle.hl_bytes.specs.Buffers.{block_of}
use Rattle.hl_found.specs.Found.{contents_found}
use Rattle.hl_found.proofs.FewBlocks.{few_found}
use Rattle.hl_found.proofs.SoundFound.{inodes_are, used_are, within}
use Rattle.hl_trial.proofs.images.verdict.rules_of_contents.Goals as goal

pub blocks_are_in_place-in_place-requires-clause-used : goal.blocks_are_in_place-in_place-requires-clause-used
blocks_are_in_place-in_place-requires-clause-used c = used_are c.args.geometry.now (block_of c.args.image.now) (contents_found c.args.found.now) c.requires.found.has

pub inode-requires : goal.inode-requires
inode-requires c =
    let g = c.args.geometry.now in
    let image = block_of c.args.image.now in
    let all = inodes_are g image (contents_found c.args.found.now) c.requires.found.has in
    let two : IsInodeCount g.inodes = (within g image (contents_found c.args.found.now) c.requires.found.has).inode_count in
    let low = two.0 in
    omega arith

pub tree_breaks-requires : goal.tree_breaks-requires
tree_breaks-requires c = few_found c.args.geometry.now (block_of c.args.image.now) c.args.found.now c.requires.found c.as_slice-nodes.result.now c.as_slice-nodes.ensures.value

pub charge_is_within-requires : goal.charge_is_within-requires
charge_is_within-requires c = few_found c.args.geometry.now (block_of c.args.image.now) c.args.found.now c.requires.found c.as_slice-nodes.result.now c.as_slice-nodes.ensures.value
