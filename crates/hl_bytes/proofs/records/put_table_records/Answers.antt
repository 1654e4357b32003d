use Rattle.std.proofs.Common.{◌≤◌, List, length, get_or, refl, subst, arith}
use Rattle.std.specs.Prelude.{All}
use Rattle.std.proofs.lemmas.List.{take_all, take_more}
use Rattle.std.proofs.lemmas.List.Elements.{All-nil, All-more, recursion_from_All}
use Rattle.hl_bytes.specs.Records.{IsTableRecord, table_record_bytes}
use Rattle.hl_bytes.specs.declared.records.TableRecord.{TableRecord}
use Rattle.hl_bytes.proofs.RunLemmas.{put_init, put_step, put_run_front}
use Rattle.hl_bytes.proofs.RecordLemmas.{length-table_record_bytes}
use Rattle.hl_bytes.proofs.records.put_table_records.Goals as goal

pub put-init : goal.put-init
put-init c = record { so_far = put_init table_record_bytes c.args.bytes.now c.args.at; size = refl; fit = All-nil IsTableRecord }

pub put-preserved : goal.put-preserved
put-preserved c =
    let low : c.args.at ≤ length c.args.bytes.now = omega (arith, c.requires) in
    let none : TableRecord = record { kind = 0; a = 0; b = 0; serial = 0 } in
    record {
      so_far = put_step table_record_bytes 24 length-table_record_bytes c.args.bytes.now c.put.bytes c.put_table_record.new.bytes c.args.changes.now (get_or c.args.changes.now c.put.i none) c.args.at c.put.i c.put.auto.i-end low (take_more c.args.changes.now c.put.i none c.put-test.true) c.put.invariant.so_far c.put_table_record.ensures.bytes;
      size = omega arith;
      fit = All-more IsTableRecord c.args.changes.now c.put.i none c.put-test.true c.put.invariant.fit c.put_table_record.ensures.fits;
    }

pub returns-clause-front : goal.returns-clause-front
returns-clause-front c = put_run_front table_record_bytes 24 length-table_record_bytes c.args.bytes.now c.put.bytes c.args.changes.now c.args.at c.put.i c.requires c.put-test.false c.put.invariant.so_far

pub returns-clause-fit : goal.returns-clause-fit
returns-clause-fit c =
    recursion_from_All IsTableRecord c.args.changes.now (subst (λ (l : List TableRecord). All IsTableRecord l) (take_all c.put.i c.args.changes.now (omega (arith, c.put-test.false))) c.put.invariant.fit)
