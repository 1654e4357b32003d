use Rattle.std.proofs.Common.{arith, ◌≡◌, ◌+◌, ◌≤◌, ◌++◌, ◌∙◌, ap, sym, subst, length, take, drop, length-append, is_none}
use Rattle.std.proofs.lemmas.List.{length-map, length-take, take_at}
use Rattle.std.specs.FinMap.Entries.{is_sorted-where_key}
use Rattle.hl_tree.specs.Names.{path_cmp, below, moved_path}
use Rattle.hl_tree.specs.Places.{InOrder, IsAround}
use Rattle.hl_tree.specs.Moved.{kept_rows, moving_rows, with_keys}
use Rattle.hl_tree.proofs.MovedRows.{moved_by_steps}
use Rattle.hl_tree.proofs.moving.take_to.Goals as goal

pub gather_rows-others-requires-clause-counted : goal.gather_rows-others-requires-clause-counted
gather_rows-others-requires-clause-counted c =
    ap length (c.as_slice.ensures.value ∙ c.requires.paths) ∙ length-map (moving_rows c.args.from.now (kept_rows c.args.to.now c.args.rows.now.items)) (λ e. moved_path c.args.from.now c.args.to.now e.0)
    ∙ ap (λ es. length (moving_rows c.args.from.now es)) (sym c.drop_rows.ensures.rows)

pub start_of-target-requires : goal.start_of-target-requires
start_of-target-requires c =
    let rows = c.drop_rows.new.rows.items in
    let from = c.args.from.now in
    let others = c.gather_rows-others.result in
    subst InOrder (sym (ap (take others) (c.deref.ensures.value ∙ c.gather_rows-others.ensures.rows) ∙ take_at (kept_rows from rows) (moving_rows from rows) others (sym c.gather_rows-others.ensures.others)))
    (is_sorted-where_key path_cmp (λ path. is_none (below from path)) rows (c.drop_rows.ensures.order c.requires.order))

pub rename_rows-requires : goal.rename_rows-requires
rename_rows-requires c =
    let rows = c.drop_rows.new.rows.items in
    let from = c.args.from.now in
    let all : length c.gather_rows-others.new.rows.items ≡ length (kept_rows from rows) + length (moving_rows from rows) = ap length c.gather_rows-others.ensures.rows ∙ length-append (kept_rows from rows) (moving_rows from rows) in
    let keys : length c.args.paths.items ≡ length (moving_rows from rows) =
    ap length c.requires.paths ∙ length-map (moving_rows from (kept_rows c.args.to.now c.args.rows.now.items)) (λ e. moved_path from c.args.to.now e.0)
    ∙ ap (λ es. length (moving_rows from es)) (sym c.drop_rows.ensures.rows) in
    let others : c.gather_rows-others.result ≡ length (kept_rows from rows) = c.gather_rows-others.ensures.others in
    omega arith

pub turn_rows-requires : goal.turn_rows-requires
turn_rows-requires c =
    let rows = c.drop_rows.new.rows.items in
    let from = c.args.from.now in
    let others = c.gather_rows-others.result in
    let gathered = c.gather_rows-others.new.rows.items in
    let all : length gathered ≡ length (kept_rows from rows) + length (moving_rows from rows) = ap length c.gather_rows-others.ensures.rows ∙ length-append (kept_rows from rows) (moving_rows from rows) in
    let counted : others ≡ length (kept_rows from rows) = c.gather_rows-others.ensures.others in
    let new : length c.rename_rows.new.rows.items ≡ length (take others gathered) + length (with_keys c.args.paths.items (drop others gathered)) = ap length c.rename_rows.ensures ∙ length-append (take others gathered) (with_keys c.args.paths.items (drop others gathered)) in
    let front = length-take others gathered in
    let low : c.start_of-target.result ≤ length (take others c.deref.result.now) = c.start_of-target.ensures.within in
    let before = length-take others c.deref.result.now in
    omega arith

pub returns : goal.returns
returns c =
    let rows = c.args.rows.now.items in
    let from = c.args.from.now in
    let to = c.args.to.now in
    let others = c.gather_rows-others.result in
    let dropped = c.drop_rows.ensures.rows in
    moved_by_steps from to rows c.gather_rows-others.new.rows.items c.rename_rows.new.rows.items c.turn_rows.new.rows.items c.args.paths.items c.start_of-target.result others c.requires.order
    (c.gather_rows-others.ensures.rows ∙ (λ i. kept_rows from (dropped i) ++ moving_rows from (dropped i)))
    (c.gather_rows-others.ensures.others ∙ ap (λ es. length (kept_rows from es)) dropped)
    (subst (λ es. IsAround (take others es) to c.start_of-target.result) c.deref.ensures.value c.start_of-target.ensures)
    c.requires.paths c.rename_rows.ensures c.turn_rows.ensures
