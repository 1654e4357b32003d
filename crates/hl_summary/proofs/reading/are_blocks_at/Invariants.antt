use Rattle.std.specs.List.{All}
use Rattle.hl_bytes.specs.Records.{block_records_at}
use Rattle.hl_summary.specs.Ranges.{IsBlockOf}
use Rattle.hl_summary.proofs.reading.are_blocks_at.Given as goal

abbrev pub invariant-each : goal.invariant-each
invariant-each l = All (IsBlockOf l.inodes l.tables) (block_records_at 40 l.i l.part)
