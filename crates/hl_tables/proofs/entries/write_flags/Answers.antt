use Rattle.std.proofs.Common.{◌-◌, ◌+◌, ◌*◌, take, drop, refl, arith}
use Rattle.hl_tables.specs.Entries.{flag_bytes}
use Rattle.hl_tables.proofs.EntryLemmas.{length-flag_bytes}
use Rattle.hl_tables.proofs.EntryBlocks.{block_written}
use Rattle.hl_tables.proofs.entries.write_flags.Goals as goal

pub returns : goal.returns
returns c =
    let xs = c.args.flags.now in
    let from = 1024 * c.args.block in
    let count = c.min-count.result in
    block_written flag_bytes 4 length-flag_bytes xs (take (from + count - from) (drop from xs)) c.args.out.now c.put_flags.new.bytes c.end_plain_page.new.block 1024 from c.args.block (from + count - from) (4 * count) c.end_plain_page.ensures c.put_flags.ensures refl (omega (arith, c.min-count.ensures)) (omega arith) refl (omega arith) (omega (arith, c.requires)) c.requires.exists
