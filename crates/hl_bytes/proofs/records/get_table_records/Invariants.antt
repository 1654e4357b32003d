use Rattle.std.proofs.Common.{◌≡◌}
use Rattle.hl_bytes.specs.Records.{table_records_at}
use Rattle.hl_bytes.proofs.records.get_table_records.Given as goal

abbrev pub invariant-get : goal.invariant-get
invariant-get l = l.changes.items ≡ table_records_at l.at l.i l.bytes
