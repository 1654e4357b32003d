use Rattle.std.proofs.Common.{refl}
use Rattle.hl_tree.specs.Contents.{resized}
use Rattle.hl_tree.proofs.Places.{changed_on_ok, changed_nowhere, place_along, gap_along}
use Rattle.hl_tree.proofs.rows.resize_row.Goals as goal

pub returns-in-Ok-clause-ok : goal.returns-in-Ok-clause-ok
returns-in-Ok-clause-ok c = changed_on_ok c.args.rows.now.items c.args.path.now c.in-Ok.i (λ old. resized old c.args.size) c.resize.result c.requires
    (place_along c.args.rows.now.items c.args.path.now c.in-Ok.i c.as_slice.result.now c.args.path.now c.as_slice.ensures.value refl c.in-Ok.ensures) c.index_mut.result.now c.resize.new.self c.index_mut.ensures.value c.resize.ensures.ok

pub returns-in-Err-clause-ok : goal.returns-in-Err-clause-ok
returns-in-Err-clause-ok c = changed_nowhere c.args.rows.now.items c.args.path.now c.in-Err.field-0 (λ old. resized old c.args.size) (gap_along c.args.rows.now.items c.args.path.now c.in-Err.field-0 c.as_slice.result.now c.args.path.now c.as_slice.ensures.value refl c.in-Err.ensures)
