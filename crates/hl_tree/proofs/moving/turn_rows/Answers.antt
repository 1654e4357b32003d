use Rattle.std.proofs.Common.{◌≡◌, ◌-◌, ◌++◌, ◌∙◌, take, drop, length, subst, sym, ◌≤◌, ◌+◌}
use Rattle.std.proofs.lemmas.List.{with_items_is}
use Rattle.hl_tree.proofs.MovedRows.{turned, length-turned}
use Rattle.hl_tree.proofs.moving.turn_rows.Goals as goal

pub returns : goal.returns
returns c =
    let start = c.args.start in
    let count = c.args.count in
    let xs = c.deref_mut.result.now in
    let ys = c.rotate_left.new.self in
    let same : xs ≡ c.args.rows.now.items = c.deref_mut.ensures.value in
    let fits : start + count ≤ length xs = subst (λ l. start + count ≤ length l) (sym same) c.requires in
    let after : ys ≡ drop count (take (length xs - start) (drop start xs)) ++ take count (take (length xs - start) (drop start xs)) = c.rotate_left.ensures.after in
    with_items_is c.args.rows.now (take start xs ++ (ys ++ drop (length xs - start) (drop start xs))) (length-turned start count xs ys fits after ∙ c.deref_mut.ensures.len)
    ∙ turned start count xs ys c.args.rows.now.items same after
