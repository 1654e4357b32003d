use Rattle.hl_summary.specs.Parts.{summary_in}
use Rattle.hl_summary.proofs.ReadingLemmas.{ranges_of}
use Rattle.hl_summary.proofs.reading.has_ranges.Goals as goal

pub returns-then-is_placed : goal.returns-then-is_placed
unfolding summary_in
returns-then-is_placed c = (
  λ t. ranges_of c.args.geometry.now c.args.seg c.args.block c.args.part.now c.block_count-blocks.result c.get_u32-next_seg.result c.get_u32-next_block.result c.block_count-blocks.ensures.value c.get_u32-next_seg.ensures.number c.get_u32-next_block.ensures.number
      (c.is_placed.ensures.0 c.if-is_placed.true) (c.has_records.ensures.0 t),
  λ all. c.has_records.ensures.1 (record { blocks = all.blocks; tables = all.tables }),
)
