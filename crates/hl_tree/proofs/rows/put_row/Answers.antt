use Rattle.std.proofs.Common.{sym, ap, ◌∙◌, set}
use Rattle.hl_tree.proofs.Places.{put_at, put_in_gap, place_along, gap_along}
use Rattle.hl_tree.proofs.rows.put_row.Goals as goal

pub returns-in-Ok-clause-ok : goal.returns-in-Ok-clause-ok
returns-in-Ok-clause-ok c =
    let place = place_along c.args.rows.now.items c.args.path c.in-Ok.i c.as_slice.result.now c.names.result.now c.as_slice.ensures.value c.names.ensures.is c.in-Ok.ensures in
    ap (λ p. set c.args.rows.now.items c.in-Ok.i (p, c.args.node)) (ap (λ e. e.0) c.index_mut.ensures.value ∙ place.here c.index_mut.result.now)
    ∙ sym (put_at c.args.rows.now.items c.args.path c.in-Ok.i c.requires place c.index_mut.result.now c.args.node)

pub returns-in_ok-insert-in-Err-clause-ok : goal.returns-in_ok-insert-in-Err-clause-ok
returns-in_ok-insert-in-Err-clause-ok c =
    let gap = gap_along c.args.rows.now.items c.args.path c.in-Err.i c.as_slice.result.now c.names.result.now c.as_slice.ensures.value c.names.ensures.is c.in-Err.ensures in
    c.in_ok-insert-in-Err.ensures.items ∙ sym (put_in_gap c.args.rows.now.items c.args.path c.in-Err.i gap c.args.node)
