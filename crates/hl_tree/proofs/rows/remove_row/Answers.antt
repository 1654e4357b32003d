use Rattle.std.proofs.Common.{sym, refl, ◌∙◌}
use Rattle.hl_tree.proofs.Places.{without_at, without_in_gap, place_along, gap_along}
use Rattle.hl_tree.proofs.rows.remove_row.Goals as goal

pub returns-in-Ok : goal.returns-in-Ok
returns-in-Ok c = c.remove.ensures.items ∙ sym (without_at c.args.rows.now.items c.args.path.now c.in-Ok.i c.requires (place_along c.args.rows.now.items c.args.path.now c.in-Ok.i c.as_slice.result.now c.args.path.now c.as_slice.ensures.value refl c.in-Ok.ensures) c.remove.result)

pub returns-in-Err : goal.returns-in-Err
returns-in-Err c = sym (without_in_gap c.args.rows.now.items c.args.path.now c.in-Err.field-0 (gap_along c.args.rows.now.items c.args.path.now c.in-Err.field-0 c.as_slice.result.now c.args.path.now c.as_slice.ensures.value refl c.in-Err.ensures))
