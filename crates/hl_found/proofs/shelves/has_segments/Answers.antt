use Rattle.std.proofs.Common.{◌≡◌, refl}
use Rattle.hl_placed.specs.Blocks.{Away, Hole}
use Rattle.hl_found.specs.Shelves.{HasSegmentOf, at_hand}
use Rattle.hl_found.proofs.NodeBlocks.{block_more, block_all, block_one}
use Rattle.hl_found.proofs.shelves.has_segments.Goals as goal

pub returns-then-not-has_segment_of : goal.returns-then-not-has_segment_of
returns-then-not-has_segment_of c = (
  λ e. absurd (cc),
  λ all. c.if-not-has_segment_of.ensures.1 (block_one c.args.node.now c.as_slice-blocks.result.now c.as_slice-blocks.ensures.value
      (λ i b. HasSegmentOf (at_hand c.args.staged.now c.args.shelf.now) b) c.each.i c.index-blocks-i.result c.each-test.true c.index-blocks-i.is (λ i serial position. all i serial position)),
)

pub each-preserved : goal.each-preserved
each-preserved c = block_more c.args.node.now c.as_slice-blocks.result.now c.as_slice-blocks.ensures.value
    (λ i b. HasSegmentOf (at_hand c.args.staged.now c.args.shelf.now) b) c.each.i c.index-blocks-i.result c.each-test.true c.index-blocks-i.is c.each.invariant (c.if-not-has_segment_of.ensures.0 refl)

pub returns : goal.returns
returns c = (
  λ yes i serial position. block_all c.args.node.now c.as_slice-blocks.result.now c.as_slice-blocks.ensures.value (λ i b. HasSegmentOf (at_hand c.args.staged.now c.args.shelf.now) b) c.each.i c.each-test.false c.each.invariant
      (λ i serial position e. (let never : Hole ≡ Away serial position = e in absurd (cc))) i serial position,
  λ all. refl,
)
