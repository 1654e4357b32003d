use Rattle.std.proofs.Common.{◌≡◌, ℕ, ◌<◌, length, sym, subst, ap, ◌∙◌}
use Rattle.std.specs.Prelude.{sum}
use Rattle.hl_addr.specs.Layout.{table_blocks_of}
use Rattle.hl_tables.specs.Values.{TableValues}
use Rattle.hl_mkfs.proofs.FirstTables.{first_count}
use Rattle.hl_mkfs.proofs.tables.block_of_tables.Goals as goal

pub write_block-requires-clause-exists : goal.write_block-requires-clause-exists
write_block-requires-clause-exists c =
    let g = c.args.geometry.now in
    let size : table_blocks_of (length c.args.tables.now.used) (length c.args.tables.now.inodes) (sum c.args.tables.now.slots.volumes) ≡ _ = ap (λ (t : TableValues). table_blocks_of (length t.used) (length t.inodes) (sum t.slots.volumes)) c.requires.tables ∙ first_count g in
    subst (λ (n : ℕ). c.args.i < n) (sym size) c.requires.there
