use Rattle.hl_ranges.proofs.WrittenBlocks.{put_part_is}
use Rattle.hl_ranges.proofs.writing.put_part.Goals as goal

pub returns-clause-part : goal.returns-clause-part
returns-clause-part c = λ old is. put_part_is c.args.i c.args.at c.max-from.result c.min-to.result c.args.bytes.now c.args.block.now c.copy_from_slice.new.self old c.requires.begins c.requires.ends c.max-from.ensures c.min-to.ensures c.requires.size c.copy_from_slice.ensures.after is
