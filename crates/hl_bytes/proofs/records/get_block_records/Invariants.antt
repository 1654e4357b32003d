use Rattle.std.proofs.Common.{◌≡◌}
use Rattle.hl_bytes.specs.Records.{block_records_at}
use Rattle.hl_bytes.proofs.records.get_block_records.Given as goal

abbrev pub invariant-get : goal.invariant-get
invariant-get l = l.blocks.items ≡ block_records_at l.at l.i l.bytes
