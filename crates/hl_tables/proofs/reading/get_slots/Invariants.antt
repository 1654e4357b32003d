use Rattle.std.proofs.Common.{◌≡◌, take}
use Rattle.hl_bytes.specs.Runs.{run_at}
use Rattle.hl_tables.specs.Entries.{slot_entry_at}
use Rattle.hl_tables.proofs.reading.get_slots.Given as goal

abbrev pub invariant-get : goal.invariant-get
invariant-get l = take l.i l.out ≡ run_at slot_entry_at 16 l.at l.i l.bytes
