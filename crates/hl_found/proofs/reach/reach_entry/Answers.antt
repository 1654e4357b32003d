use Rattle.std.proofs.Common.{◌≡◌, ◌<◌, List, [], ◌∷◌, ◌++◌, length, sym, ap, ◌∙◌, subst}
use Rattle.std.specs.List.{slice_index_or}
use Rattle.hl_found.specs.declared.reach.Reached.{Reached}
use Rattle.hl_found.proofs.ReachFound.{some_use, unused_unlinked, found_goes}
use Rattle.hl_found.proofs.reach.reach_entry.Goals as goal

pub returns-then-not-is_in_use : goal.returns-then-not-is_in_use
returns-then-not-is_in_use c = λ numbered are entries reached leads. unused_unlinked numbered (c.args.path.now ++ c.args.entry.now.name ∷ []) c.args.entry.now.ino leads
    (λ some. (let e = c.if-not-is_in_use.ensures.1 (some_use numbered c.args.uses.now are c.args.entry.now.ino some) in cc))

pub returns-in-Some : goal.returns-in-Some
returns-in-Some c = λ numbered are entries reached leads.
    let old = c.args.reached.now.items in
    let same = c.as_slice.ensures.value in
    let child = c.in_ok-child.ensures in
    found_goes numbered old (c.args.path.now ++ c.args.entry.now.name ∷ []) c.args.entry.now.ino c.in-Some.i c.is_on_path.result reached leads
    (subst (λ (l : List Reached). c.in-Some.i < length l) same c.in-Some.ensures.0)
    (λ d. subst (λ (l : List Reached). (slice_index_or l c.in-Some.i d).number ≡ c.args.entry.now.ino) same (c.in-Some.ensures.1 d))
    (λ d yes. ap (λ (l : List Reached). (slice_index_or l c.in-Some.i d).path) (sym c.as_slice-in-Some.ensures.value) ∙ (c.is_on_path.ensures d).0 yes ∙ child)
    (λ d is. (c.is_on_path.ensures d).1 (ap (λ (l : List Reached). (slice_index_or l c.in-Some.i d).path) c.as_slice-in-Some.ensures.value ∙ is ∙ sym child))
