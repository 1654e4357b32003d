use Rattle.hl_store.proofs.LayLemmas.{laid_more}
use Rattle.hl_store.proofs.flushing.lay_inodes.Goals as goal

pub inodes-preserved : goal.inodes-preserved
inodes-preserved c = laid_more c.args.tables.now c.inodes.tables c.lay_block.new.tables c.args.unit.now.blocks c.items-block-items.result.now c.args.plan.now c.inodes.n _
    c.inodes.invariant.so_far c.inodes.invariant.shape c.items-block-items.ensures c.requires.plan c.inodes-test.true c.lay_block.ensures.value c.lay_block.ensures.shape
