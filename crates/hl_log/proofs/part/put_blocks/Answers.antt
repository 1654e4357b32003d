use Rattle.std.proofs.Common.{◌≡◌, ◌+◌, ◌*◌, ◌++◌, ◌∷◌, [], List, ℕ, length, ap, sym, ◌∙◌, arith}
use Rattle.hl_log.specs.Loads.{contents_of}
use Rattle.hl_log.proofs.Runs.{blocks_more, taken_more}
use Rattle.hl_log.proofs.part.put_blocks.Goals as goal

pub put-preserved : goal.put-preserved
put-preserved c =
    let size : length c.put.out ≡ 4096 * (1 + c.args.count) = omega (arith, c.put.invariant.size, c.requires.size) in
    record {
      so_far = blocks_more c.put.out c.put_bytes.new.bytes c.bytes.result.now c.put.i c.args.count size c.put-test.true c.bytes.ensures.size c.put_bytes.ensures.whole
          ∙ ap (λ (l : List (List ℕ)). l ++ c.bytes.result.now ∷ []) c.put.invariant.so_far
          ∙ sym (taken_more (contents_of c.args.load.now) c.args.first c.args.count c.put.i c.bytes.result.now [] c.requires.within c.put-test.true c.bytes.ensures.value);
      size = omega (arith, c.put.invariant.size, c.put_bytes.auto.bytes);
    }
