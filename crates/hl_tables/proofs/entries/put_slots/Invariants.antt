use Rattle.std.proofs.Common.{◌≡◌, take, length}
use Rattle.hl_bytes.specs.Fields.{written}
use Rattle.hl_bytes.specs.Runs.{run_bytes}
use Rattle.hl_tables.specs.Entries.{slot_bytes}
use Rattle.hl_tables.proofs.entries.put_slots.Given as goal

abbrev pub invariant-put : goal.invariant-put
invariant-put l = record { so_far : l.bytes ≡ written l.fn.bytes l.at (run_bytes slot_bytes (take l.i l.slots)); size : length l.bytes ≡ length l.fn.bytes }
