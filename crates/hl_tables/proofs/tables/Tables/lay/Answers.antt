use Rattle.std.proofs.Common.{◌+◌, ◌*◌, ◌∙◌, get_or, sym, ap}
use Rattle.hl_bytes.specs.declared.records.BlockRecord.{BlockRecord}
use Rattle.hl_tables.specs.Values.{TableValues}
use Rattle.hl_tables.specs.Laying.{block_laid}
use Rattle.hl_tables.proofs.Laid.{blocks_laid-more, same_shape-then}
use Rattle.hl_tables.proofs.tables.Tables.lay.Goals as goal

pub blocks-2-preserved : goal.blocks-2-preserved
blocks-2-preserved c =
    let none : BlockRecord = record { ino = 0; index = 0 } in
    let start = c.args.seg * c.self.inside.k + c.args.first in
    record {
      so_far = c.lay_block.ensures.value ∙ ap (λ (t : TableValues). block_laid t (start + c.blocks-2.i) (get_or c.args.blocks.now c.blocks-2.i none)) c.blocks-2.invariant.so_far ∙ sym (blocks_laid-more c.args.self.now start c.args.blocks.now c.blocks-2.i none c.blocks-2-test.true);
      shape = same_shape-then c.args.self.now c.blocks-2.self c.lay_block.new.self c.blocks-2.invariant.shape c.lay_block.ensures.shape;
    }
