use Rattle.std.proofs.Common.{◌<◌, length, ◌∙◌, arith}
use Rattle.std.proofs.Math.ListN.{length-set}
use Rattle.hl_overlay.proofs.PointerLemmas.{counted_set, far_count_most}
use Rattle.hl_overlay.proofs.pointers.Pointers.set.Goals as goal

pub overflow_add-self : goal.overflow_add-self
overflow_add-self c = (let most = far_count_most c.self.inside.vec.items in let one = c.blocks_in.ensures.most in let is = c.self.invariant.far_is in let count = c.self.invariant.count in omega arith)

pub overflow_sub-self : goal.overflow_sub-self
overflow_sub-self c =
    let low : c.args.i < length c.self.inside.vec.items = (let count = c.self.invariant.count in omega arith) in
    let e = counted_set c.self.inside.vec.items c.args.i c.self.inside.far c.blocks_in.result c.blocks_in-then-i-ge-DIRECT.result c.args.pointer c.index-before.result.now c.self.invariant.far_is c.if-i-ge-DIRECT.true low c.index-before.ensures c.blocks_in.ensures.value c.blocks_in-then-i-ge-DIRECT.ensures.value in
    omega arith

pub invariant_of-self : goal.invariant_of-self
invariant_of-self c = record {
  count = length-set c.self.inside.vec.items c.args.i c.args.pointer ∙ c.self.invariant.count;
  far_is = (
      let low : c.args.i < length c.self.inside.vec.items = (let count = c.self.invariant.count in omega arith) in
      let e = counted_set c.self.inside.vec.items c.args.i c.self.inside.far c.blocks_in.result c.blocks_in-then-i-ge-DIRECT.result c.args.pointer c.index-before.result.now c.self.invariant.far_is c.if-i-ge-DIRECT.true low c.index-before.ensures c.blocks_in.ensures.value c.blocks_in-then-i-ge-DIRECT.ensures.value in
      omega arith);
}
