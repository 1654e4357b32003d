use Rattle.std.proofs.Common.{◌≡◌, map}
use Rattle.std.specs.List.{range_with_len}
use Rattle.hl_tables.specs.TableBlocks.{table_block}
use Rattle.hl_log.specs.Loads.{bytes_of_tables}
use Rattle.hl_mkfs.specs.Parts.{first_tables}
use Rattle.hl_mkfs.proofs.tables.first_table_blocks.Given as goal

-- the blocks that were passed
abbrev pub invariant-blocks-2 : goal.invariant-blocks-2
invariant-blocks-2 l = bytes_of_tables l.blocks.items ≡ map (table_block (first_tables l.geometry)) (range_with_len 0 l.i)
