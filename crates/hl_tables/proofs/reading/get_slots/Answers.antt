use Rattle.std.proofs.Common.{arith}
use Rattle.hl_tables.specs.Entries.{slot_entry_at}
use Rattle.hl_bytes.proofs.RunLemmas.{get_init, get_step}
use Rattle.hl_tables.proofs.reading.get_slots.Goals as goal

pub get-init : goal.get-init
get-init c = get_init slot_entry_at 16 c.args.at c.args.bytes.now

pub get-preserved : goal.get-preserved
get-preserved c = get_step slot_entry_at 16 c.args.bytes.now c.get.out c.args.at c.get.i c.slot_entry_at.result (omega arith) c.get.invariant c.slot_entry_at.ensures
