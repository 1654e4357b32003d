use Rattle.std.proofs.Common.{length, refl, ap, subst, arith}
use Rattle.std.proofs.lemmas.List.{length-map}
use Rattle.hl_nodes.specs.Found.{block_found}
use Rattle.hl_found.specs.Directories.{IsWhole}
use Rattle.hl_found.proofs.NodeBlocks.{item_block, block_more}
use Rattle.hl_found.proofs.directories.is_resident.Goals as goal

pub returns-then-not-is_whole : goal.returns-then-not-is_whole
returns-then-not-is_whole c =
    let size = ap length c.as_slice-blocks.ensures.value in
    let mapped = length-map c.args.node.now.blocks.items block_found in
    let own = item_block c.args.node.now c.as_slice-blocks.result.now c.as_slice-blocks.ensures.value c.each.i c.index-blocks-i.result c.each-test.true c.index-blocks-i.is in
    (λ e. absurd (cc), λ resident. c.if-not-is_whole.ensures.1 (subst IsWhole own (resident.whole c.each.i (omega (arith, c.each-test.true)))))

pub each-preserved : goal.each-preserved
each-preserved c = block_more c.args.node.now c.as_slice-blocks.result.now c.as_slice-blocks.ensures.value (λ i b. IsWhole b) c.each.i c.index-blocks-i.result c.each-test.true c.index-blocks-i.is c.each.invariant (c.if-not-is_whole.ensures.0 refl)
