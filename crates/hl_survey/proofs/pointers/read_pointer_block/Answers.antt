use Rattle.std.proofs.Common.{refl}
use Rattle.hl_media.specs.History.{content}
use Rattle.hl_survey.proofs.PointerBlocks.{off_block, own_block}
use Rattle.hl_survey.proofs.pointers.read_pointer_block.Goals as goal

pub returns-then-names_own_blocks-clause-block : goal.returns-then-names_own_blocks-clause-block
returns-then-names_own_blocks-clause-block g c h e =
    own_block (content h) c.args.inode.now c.read_block.new.out c.if-inode.false (c.in_ok-read_block.ensures.bytes h e) c.args.geometry.now (c.is_in_log.ensures.place.0 c.if-not-is_in_log.false) (c.names_own_blocks.ensures.so c.if-names_own_blocks.true)

pub returns-else-names_own_blocks-clause-stops : goal.returns-else-names_own_blocks-clause-stops
returns-else-names_own_blocks-clause-stops g c h e t rec ino there parts = (
  ino,
  c.args.own,
  c.args.inode.now,
  there,
  c.is_in_log.ensures.place.0 c.if-not-is_in_log.false,
  refl,
  off_block (content h) c.args.inode.now c.read_block.new.out c.if-inode.false (c.in_ok-read_block.ensures.bytes h e) (c.names_own_blocks.ensures.not c.if-names_own_blocks.false),
)
