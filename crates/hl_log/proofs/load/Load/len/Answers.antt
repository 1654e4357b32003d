use Rattle.std.proofs.Common.{length, ap, sym, ◌∙◌}
use Rattle.std.proofs.lemmas.List.FromFn.{length-map-range_with_len}
use Rattle.hl_log.specs.declared.load.Load.{Load}
use Rattle.hl_log.specs.Loads.{table_record, records_of}
use Rattle.hl_log.proofs.load.Load.len.Goals as goal

pub returns-in-Tables-clause-records : goal.returns-in-Tables-clause-records
returns-in-Tables-clause-records c = sym (ap (λ (x : Load). length (records_of x)) c.in-Tables.is ∙ length-map-range_with_len table_record 0 (length c.in-Tables.blocks.now))
