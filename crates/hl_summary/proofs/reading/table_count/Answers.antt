use Rattle.std.proofs.Common.{arith}
use Rattle.hl_summary.proofs.ReadingLemmas.{count_tables}
use Rattle.hl_summary.proofs.reading.table_count.Goals as goal

pub returns : goal.returns
returns c = omega (arith, count_tables c.args.part.now, c.get_u32.ensures.number)
