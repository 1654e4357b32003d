use Rattle.std.proofs.Common.{◌≡◌, ◌<◌, ◌+◌, get_or, length, sym, ◌∙◌, arith, ap}
use Rattle.std.proofs.lemmas.List.FromFn.{length-map-range_with_len, get_or-map-range_with_len}
use Rattle.hl_log.specs.declared.load.Load.{Load}
use Rattle.hl_log.specs.Loads.{table_record, records_of}
use Rattle.hl_log.proofs.load.Load.record.Goals as goal

pub returns-in-Tables : goal.returns-in-Tables
returns-in-Tables c =
    let n = length c.in-Tables.field-0.now in
    let size : length (records_of c.args.self.now) ≡ n = ap (λ (x : Load). length (records_of x)) c.in-Tables.is ∙ length-map-range_with_len table_record 0 n in
    let lt : c.args.i < n = omega (arith, c.requires.within, size) in
    let e : 0 + c.args.i ≡ c.args.i = omega arith in
    sym (ap (λ (x : Load). get_or (records_of x) c.args.i (table_record c.args.i)) c.in-Tables.is ∙ get_or-map-range_with_len table_record 0 n c.args.i c.args.i (table_record c.args.i) lt e)
