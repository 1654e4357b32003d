use Rattle.hl_calls.proofs.GrownFiles.{count_of}
use Rattle.hl_calls.proofs.growth.file_blocks.Goals as goal

pub returns-clause-blocks : goal.returns-clause-blocks
returns-clause-blocks g c = count_of g.M.Machine.history c.args.store.now c.args.ino c.in_ok-size.size c.div_ceil.result c.div_ceil.ensures c.in_ok-size.ensures.size
