use Rattle.std.proofs.Common.{◌≡◌, ◌≤◌, ◌<◌, List, ℕ, Result, Ok, Err, OnOk, OnErr, subst, sym, arith}
use Rattle.std.specs.FinMap.{FinMap, insert, len}
use Rattle.hl_tree.specs.Names.{path_cmp}
use Rattle.hl_tree.proofs.Room.{len-insert-le}
use Rattle.hl_tree.proofs.plain.PlainTree.put.Goals as goal

-- what was put finds room, and what wasn't takes none
has_room : {T E X : Type 0} (limit : ℕ) (r : Result T E) (old new : FinMap path_cmp X) (path : List (List ℕ)) (node : X)
    → len old < limit → OnOk r (new ≡ insert old path node) → OnErr r (new ≡ old) → len new ≤ limit
has_room limit (Ok u) old new path node room put kept =
    let more = len-insert-le old path node in
    subst (λ m. len m ≤ limit) (sym put) (omega (arith, more, room))
has_room limit (Err e) old new path node room put kept = subst (λ m. len m ≤ limit) (sym kept) (omega (arith, room))

pub invariant_of-self : goal.invariant_of-self
invariant_of-self c = has_room c.self.inside.limits.nodes c.insert.result _ _ c.args.path c.args.node (subst (λ p. len p.tree < p.limits.nodes) (sym c.self.view_is) c.requires) c.insert.ensures.ok c.insert.ensures.err
