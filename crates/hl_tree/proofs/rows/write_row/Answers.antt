use Rattle.std.proofs.Common.{refl}
use Rattle.hl_tree.specs.Contents.{written}
use Rattle.hl_tree.proofs.Places.{changed_on_ok, changed_nowhere, place_along, gap_along}
use Rattle.hl_tree.proofs.rows.write_row.Goals as goal

pub returns-in-Ok-clause-ok : goal.returns-in-Ok-clause-ok
returns-in-Ok-clause-ok c = changed_on_ok c.args.rows.now.items c.args.path.now c.in-Ok.i (λ old. written old c.args.at c.args.bytes.now) c.write.result c.requires.order
    (place_along c.args.rows.now.items c.args.path.now c.in-Ok.i c.as_slice.result.now c.args.path.now c.as_slice.ensures.value refl c.in-Ok.ensures) c.index_mut.result.now c.write.new.self c.index_mut.ensures.value c.write.ensures.ok

pub returns-in-Err-clause-ok : goal.returns-in-Err-clause-ok
returns-in-Err-clause-ok c = changed_nowhere c.args.rows.now.items c.args.path.now c.in-Err.field-0 (λ old. written old c.args.at c.args.bytes.now) (gap_along c.args.rows.now.items c.args.path.now c.in-Err.field-0 c.as_slice.result.now c.args.path.now c.as_slice.ensures.value refl c.in-Err.ensures)
