use Rattle.std.proofs.Common.{◌-◌, ◌+◌, ◌*◌, take, drop, refl, arith}
use Rattle.hl_tables.specs.Entries.{slot_bytes}
use Rattle.hl_tables.proofs.EntryLemmas.{length-slot_bytes}
use Rattle.hl_tables.proofs.EntryBlocks.{block_written}
use Rattle.hl_tables.proofs.entries.write_slots.Goals as goal

pub returns : goal.returns
returns c =
    let xs = c.args.slots.now in
    let from = 256 * c.args.block in
    let count = c.min-count.result in
    block_written slot_bytes 16 length-slot_bytes xs (take (from + count - from) (drop from xs)) c.args.out.now c.put_slots.new.bytes c.end_plain_page.new.block 256 from c.args.block (from + count - from) (16 * count) c.end_plain_page.ensures c.put_slots.ensures refl (omega (arith, c.min-count.ensures)) (omega arith) refl (omega arith) (omega (arith, c.requires)) c.requires.exists
