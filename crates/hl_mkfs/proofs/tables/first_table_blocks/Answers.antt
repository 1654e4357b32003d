use Rattle.hl_mkfs.specs.Parts.{first_tables}
use Rattle.hl_mkfs.proofs.FirstTables.{table_more}
use Rattle.hl_mkfs.proofs.tables.first_table_blocks.Goals as goal

pub blocks-2-preserved : goal.blocks-2-preserved
blocks-2-preserved c = table_more (first_tables c.args.geometry.now) c.blocks-2.blocks.items c.push.new.self.items c.blocks-2.i c.block_of_tables.result c.blocks-2.invariant c.block_of_tables.ensures c.in_ok-push.ensures.items
