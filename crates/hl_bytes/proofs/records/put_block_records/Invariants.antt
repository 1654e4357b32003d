use Rattle.std.proofs.Common.{◌≡◌, take, length}
use Rattle.std.specs.Prelude.{All}
use Rattle.hl_bytes.specs.Fields.{written}
use Rattle.hl_bytes.specs.Records.{IsBlockRecord, block_records_bytes}
use Rattle.hl_bytes.proofs.records.put_block_records.Given as goal

abbrev pub invariant-put : goal.invariant-put
invariant-put l = record { so_far : l.bytes ≡ written l.fn.bytes l.at (block_records_bytes (take l.i l.blocks)); size : length l.bytes ≡ length l.fn.bytes; fit : All IsBlockRecord (take l.i l.blocks) }
