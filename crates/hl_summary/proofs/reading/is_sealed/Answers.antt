use Rattle.std.proofs.Common.{arith}
use Rattle.hl_summary.proofs.reading.is_sealed.Goals as goal

pub is_page_over-requires-clause-within : goal.is_page_over-requires-clause-within
is_page_over-requires-clause-within c = omega (arith, c.table_count.ensures.few)
