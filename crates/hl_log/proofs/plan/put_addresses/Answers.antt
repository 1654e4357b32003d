use Rattle.std.proofs.Common.{◌≡◌, ◌<◌, ◌+◌, ℕ, take, length, length-set, ap, ◌∙◌, arith}
use Rattle.std.proofs.Math.ListN.{set}
use Rattle.std.proofs.lemmas.List.{take_more_set}
use Rattle.hl_image.specs.Places.{block_at}
use Rattle.hl_log.proofs.Runs.{pushed_more}
use Rattle.hl_log.proofs.plan.put_addresses.Goals as goal

pub overflow_add-first : goal.overflow_add-first
overflow_add-first c = omega (arith, c.block_at-first.ensures.small, c.requires.within)

pub put-preserved : goal.put-preserved
put-preserved c =
    let v = c.block_at-first.result + 1 + c.put.i in
    let more = set c.put.addresses (c.args.from + c.put.i) v in
    let e : c.args.from + (c.put.i + 1) ≡ c.args.from + c.put.i + 1 = omega arith in
    let lt : c.args.from + c.put.i < length c.put.addresses = omega (arith, c.put.auto.addresses, c.requires.room, c.put-test.true) in
    let row = block_at c.args.geometry.now c.args.piece.at + 1 in
    record {
      so_far = ap (λ (n : ℕ). take n more) e
          ∙ pushed_more (take c.args.from c.args.addresses.now) (take (c.args.from + c.put.i) c.put.addresses) (take (c.args.from + c.put.i + 1) more) row c.put.i v c.put.invariant.so_far
          (take_more_set c.put.addresses (c.args.from + c.put.i) v lt) (omega (arith, c.block_at-first.ensures.value));
      size = length-set c.put.addresses (c.args.from + c.put.i) v ∙ c.put.invariant.size;
    }
