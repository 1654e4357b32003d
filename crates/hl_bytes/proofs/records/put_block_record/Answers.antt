use Rattle.std.proofs.Common.{◌+◌, arith}
use Rattle.hl_bytes.specs.Fields.{le32}
use Rattle.hl_bytes.specs.Records.{block_record_bytes}
use Rattle.hl_bytes.proofs.Places.{written_on}
use Rattle.hl_bytes.proofs.RunLemmas.{length-le32}
use Rattle.hl_bytes.proofs.records.put_block_record.Goals as goal

pub returns-clause-bytes : goal.returns-clause-bytes
unfolding block_record_bytes
returns-clause-bytes c =
    written_on c.args.bytes.now c.put_u32.new.bytes c.put_u32-2.new.bytes (le32 c.args.block.now.ino) (le32 c.args.block.now.index) c.args.at (c.args.at + 4) c.put_u32.ensures.whole c.put_u32-2.ensures.whole (omega (arith, length-le32 c.args.block.now.ino)) (omega (arith, c.requires))
