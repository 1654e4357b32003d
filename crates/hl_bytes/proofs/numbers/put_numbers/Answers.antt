use Rattle.std.proofs.Common.{refl, arith}
use Rattle.hl_bytes.specs.Fields.{le32}
use Rattle.hl_bytes.proofs.RunLemmas.{put_init, put_numbers_step, put_numbers_done}
use Rattle.hl_bytes.proofs.numbers.put_numbers.Goals as goal

pub put-init : goal.put-init
put-init c = record { so_far = put_init le32 c.args.bytes.now c.args.at; size = refl }

pub put-preserved : goal.put-preserved
put-preserved c =
    record {
      so_far = put_numbers_step c.args.bytes.now c.put.bytes c.put_u32.new.bytes c.args.numbers.now c.args.at c.put.i c.put-test.true c.requires c.put.invariant.so_far c.put_u32.ensures.whole;
      size = omega arith;
    }

pub returns-clause-front : goal.returns-clause-front
returns-clause-front c = put_numbers_done c.args.bytes.now c.put.bytes c.args.numbers.now c.args.at c.put.i c.requires c.put-test.false c.put.invariant.so_far
