use Rattle.std.proofs.Common.{arith}
use Rattle.hl_summary.proofs.ReadingLemmas.{count_blocks}
use Rattle.hl_summary.proofs.reading.block_count.Goals as goal

pub returns : goal.returns
returns c = omega (arith, count_blocks c.args.part.now, c.get_u32.ensures.number)
