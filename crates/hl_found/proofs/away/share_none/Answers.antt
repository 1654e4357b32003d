use Rattle.std.proofs.Common.{◌≡◌, refl}
use Rattle.hl_placed.specs.Blocks.{Away, Hole}
use Rattle.hl_nodes.specs.Found.{node_found}
use Rattle.hl_found.specs.Away.{HasSameFrom}
use Rattle.hl_found.proofs.NodeBlocks.{block_more, block_all, block_one}
use Rattle.hl_found.proofs.away.share_none.Goals as goal

pub returns-then-has_same_from : goal.returns-then-has_same_from
returns-then-has_same_from c = (
  λ e. absurd (cc),
  λ none. absurd (block_one c.args.one.now c.as_slice-blocks.result.now c.as_slice-blocks.ensures.value
      (λ i b. HasSameFrom 0 b (node_found c.args.other.now).content → ⊥) c.ones.i c.index-blocks-i.result c.ones-test.true c.index-blocks-i.is none (c.if-has_same_from.ensures.0 refl)),
)

pub ones-preserved : goal.ones-preserved
ones-preserved c = block_more c.args.one.now c.as_slice-blocks.result.now c.as_slice-blocks.ensures.value
    (λ i b. HasSameFrom 0 b (node_found c.args.other.now).content → ⊥) c.ones.i c.index-blocks-i.result c.ones-test.true c.index-blocks-i.is c.ones.invariant
    (λ has. (let e = c.if-has_same_from.ensures.1 has in cc))

pub returns : goal.returns
returns c = (
  λ yes. block_all c.args.one.now c.as_slice-blocks.result.now c.as_slice-blocks.ensures.value (λ i b. HasSameFrom 0 b (node_found c.args.other.now).content → ⊥) c.ones.i c.ones-test.false c.ones.invariant
      (λ i (serial, position, e, has). (let never : Hole ≡ Away serial position = e in cc)),
  λ none. refl,
)
