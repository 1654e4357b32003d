use Rattle.std.proofs.Common.{ℕ, ◌*◌, ap, arith}
use Rattle.std.specs.Int.{div_ceil}
use Rattle.hl_addr.specs.Layout.{table_blocks_of}
use Rattle.hl_tables.proofs.tables.Tables.blocks.Goals as goal

pub returns : goal.returns
unfolding table_blocks_of
returns c =
    omega (arith, c.inode_blocks.ensures.value, c.used_blocks.ensures.value, c.slot_blocks.ensures.value, ap (λ (n : ℕ). div_ceil (16 * n) 4096) c.slot_blocks.ensures.sizes.each_slot)
