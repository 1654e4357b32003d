use Rattle.std.proofs.Common.{Some, sym, ◌∙◌, ap, arith}
use Rattle.hl_summary.proofs.ReadingLemmas.{count_tables, table_in}
use Rattle.hl_summary.proofs.reading.table_record.Goals as goal

pub get_table_record-requires : goal.get_table_record-requires
get_table_record-requires c = omega (arith, c.requires.within, c.requires.size, count_tables c.args.part.now)

pub returns : goal.returns
returns c = table_in c.args.part.now c.args.i c.requires.within ∙ ap Some (sym c.get_table_record.ensures)
