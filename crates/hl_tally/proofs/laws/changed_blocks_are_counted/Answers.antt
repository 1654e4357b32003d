use Rattle.hl_tally.proofs.BlockLaws.{block_tally}
use Rattle.hl_tally.proofs.laws.changed_blocks_are_counted.Goals as goal

pub returns : goal.returns
returns r g image c old new ino i h d e n ch tally = block_tally g old new image c ino i h d e ch n tally
