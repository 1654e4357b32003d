use Rattle.std.proofs.Common.{◌≡◌, take, length}
use Rattle.std.specs.Prelude.{All}
use Rattle.hl_bytes.specs.Fields.{written}
use Rattle.hl_bytes.specs.Records.{IsTableRecord, table_records_bytes}
use Rattle.hl_bytes.proofs.records.put_table_records.Given as goal

abbrev pub invariant-put : goal.invariant-put
invariant-put l = record { so_far : l.bytes ≡ written l.fn.bytes l.at (table_records_bytes (take l.i l.changes)); size : length l.bytes ≡ length l.fn.bytes; fit : All IsTableRecord (take l.i l.changes) }
