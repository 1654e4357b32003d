use Rattle.std.proofs.Common.{arith}
use Rattle.hl_bytes.specs.Fields.{u32_at}
use Rattle.hl_bytes.proofs.RunLemmas.{get_init, get_step}
use Rattle.hl_bytes.proofs.numbers.get_numbers.Goals as goal

pub get-init : goal.get-init
get-init c = get_init u32_at 4 c.args.at c.args.bytes.now

pub get-preserved : goal.get-preserved
get-preserved c = get_step u32_at 4 c.args.bytes.now c.get.out c.args.at c.get.i c.get_u32.result (omega arith) c.get.invariant c.get_u32.ensures.number
