use Rattle.std.specs.List.{All}
use Rattle.hl_bytes.specs.Records.{table_records_at}
use Rattle.hl_summary.specs.Ranges.{IsChangeOf}
use Rattle.hl_summary.proofs.reading.are_changes_at.Given as goal

abbrev pub invariant-each : goal.invariant-each
invariant-each l = All (IsChangeOf l.inodes l.slots l.volumes) (table_records_at 1960 l.i l.part)
