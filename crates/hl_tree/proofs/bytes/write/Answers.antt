use Rattle.std.proofs.Common.{arith, ◌≡◌, ◌+◌, ◌-◌, ◌≤◌, ◌++◌, max, length, take, drop, ◌∙◌}
use Rattle.std.proofs.lemmas.List.{with_items_is}
use Rattle.hl_tree.specs.Contents.{resized}
use Rattle.hl_tree.proofs.Contents.{copied, length-copied}
use Rattle.hl_tree.proofs.bytes.write.Goals as goal

pub returns-clause-ok : goal.returns-clause-ok
returns-clause-ok c =
    let at = c.args.at in
    let part = c.args.part.now in
    let xs = c.deref_mut.result.now in
    let ys = c.copy_from_slice.new.self in
    let room : xs ≡ resized c.args.bytes.now.items (max (length c.args.bytes.now.items) (at + length part)) = c.deref_mut.ensures.value ∙ c.in_ok-lengthen.ensures.ok in
    let same : ys ≡ part = c.copy_from_slice.ensures.after in
    let fits : at + length part ≤ length xs = omega (arith, c.in_ok-lengthen.ensures.long, c.deref_mut.ensures.len) in
    with_items_is c.lengthen.new.bytes (take at xs ++ (ys ++ drop ((at + length part) - at) (drop at xs))) (length-copied at part xs ys fits same ∙ c.deref_mut.ensures.len)
    ∙ copied at part xs ys c.args.bytes.now.items room same
