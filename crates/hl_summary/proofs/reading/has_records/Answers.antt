use Rattle.std.proofs.Common.{length, sym, ap, ◌∙◌, arith}
use Rattle.std.proofs.lemmas.Bool.{false≢true}
use Rattle.hl_addr.specs.Layout.{Layout}
use Rattle.hl_summary.proofs.ReadingLemmas.{blocks_hold, tables_hold}
use Rattle.hl_summary.proofs.reading.has_records.Goals as goal

pub are_blocks_at-requires : goal.are_blocks_at-requires
are_blocks_at-requires c = omega (arith, c.block_count.ensures.few, c.requires)

pub are_changes_at-requires : goal.are_changes_at-requires
are_changes_at-requires c = omega (arith, c.table_count.ensures.few, c.requires)

pub returns-then-are_blocks_at : goal.returns-then-are_blocks_at
returns-then-are_blocks_at c =
    let g = c.args.geometry.now in
    let part = c.args.part.now in
    let inodes = ap (λ (l : Layout). l.inodes) c.geometry.view_is in
    let volumes = ap length (c.items.ensures ∙ ap (λ (l : Layout). l.volumes) c.geometry.view_is) in
    let blocks = blocks_hold g part c.block_count.result c.geometry.inside.inodes c.table_blocks.result c.block_count.ensures.value inodes c.table_blocks.ensures in
    let tables = tables_hold g part c.table_count.result c.geometry.inside.inodes c.slots.result (length c.items.result.now) c.table_count.ensures.value inodes c.slots.ensures volumes in
    (λ t. record { blocks = blocks.0 (c.are_blocks_at.ensures.0 c.if-are_blocks_at.true); tables = tables.0 (c.are_changes_at.ensures.0 t) }, λ all. c.are_changes_at.ensures.1 (tables.1 all.tables))

pub returns-else-are_blocks_at : goal.returns-else-are_blocks_at
returns-else-are_blocks_at c =
    let inodes = ap (λ (l : Layout). l.inodes) c.geometry.view_is in
    let blocks = blocks_hold c.args.geometry.now c.args.part.now c.block_count.result c.geometry.inside.inodes c.table_blocks.result c.block_count.ensures.value inodes c.table_blocks.ensures in
    (λ t. absurd (false≢true (sym c.if-are_blocks_at.false ∙ t)), λ all. c.are_blocks_at.ensures.1 (blocks.1 all.blocks))
