use Rattle.std.proofs.Common.{Some, sym, ◌∙◌, ap, arith}
use Rattle.hl_summary.proofs.ReadingLemmas.{block_in, count_blocks}
use Rattle.hl_summary.proofs.reading.block_record.Goals as goal

pub get_block_record-requires : goal.get_block_record-requires
get_block_record-requires c = omega (arith, c.requires.within, c.requires.size, count_blocks c.args.part.now)

pub returns : goal.returns
returns c = block_in c.args.part.now c.args.i c.requires.within ∙ ap Some (sym c.get_block_record.ensures)
