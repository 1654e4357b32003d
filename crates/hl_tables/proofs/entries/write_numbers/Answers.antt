use Rattle.std.proofs.Common.{◌-◌, ◌+◌, ◌*◌, take, drop, refl, arith}
use Rattle.hl_bytes.specs.Fields.{le32}
use Rattle.hl_bytes.proofs.RunLemmas.{length-le32}
use Rattle.hl_tables.proofs.EntryBlocks.{block_written}
use Rattle.hl_tables.proofs.entries.write_numbers.Goals as goal

pub returns : goal.returns
returns c =
    let xs = c.args.numbers.now in
    let from = 1024 * c.args.block in
    let count = c.min-count.result in
    block_written le32 4 length-le32 xs (take (from + count - from) (drop from xs)) c.args.out.now c.put_numbers.new.bytes c.end_plain_page.new.block 1024 from c.args.block (from + count - from) (4 * count) c.end_plain_page.ensures c.put_numbers.ensures.front refl (omega (arith, c.min-count.ensures)) (omega arith) refl (omega arith) (omega (arith, c.requires)) c.requires.exists
