use Rattle.std.proofs.Common.{arith}
use Rattle.hl_tables.specs.Entries.{flag_at}
use Rattle.hl_bytes.proofs.RunLemmas.{get_init, get_step}
use Rattle.hl_tables.proofs.reading.get_flags.Goals as goal

pub get-init : goal.get-init
get-init c = get_init flag_at 4 c.args.at c.args.bytes.now

pub get-preserved : goal.get-preserved
get-preserved c = get_step flag_at 4 c.args.bytes.now c.get.out c.args.at c.get.i c.flag_at.result (omega arith) c.get.invariant c.flag_at.ensures
