use Rattle.std.proofs.Common.{ℕ, List, [], ◌∷◌, ◌++◌, refl, sym, ap, ◌∙◌, subst, arith}
use Rattle.std.specs.Prelude.{Contains}
use Rattle.hl_found.specs.declared.reach.Reached.{Reached}
use Rattle.hl_found.specs.Reach.{at_path, AreReached, Closes, HasNumber}
use Rattle.hl_found.proofs.ReachFound.{some_use, use_some, closed_places, closed_linked, linked_all, root_reached}
use Rattle.hl_found.proofs.reach.places_of.Goals as goal

pub returns-then-not-branch : goal.returns-then-not-branch
returns-then-not-branch c = λ numbered are entries root.
    let items = c.in_ok-push.ensures.items ∙ ap (λ (l : List Reached). l ++ at_path c.root.result 1 ∷ []) c.new-reached.ensures.items ∙ ap (λ (p : List (List ℕ)). at_path p 1 ∷ []) c.root.ensures in
    let first = subst (AreReached numbered) (sym items) (root_reached numbered root) in
    let there = subst (λ (l : List Reached). Contains l (at_path [] 1)) (sym items) (0, omega arith, refl) in
    subst (Closes numbered c.reach_all.new.reached.items) c.if-not-branch.true (c.in_ok-reach_all.ensures numbered are entries first there)

pub returns-then-not-all_are_reached : goal.returns-then-not-all_are_reached
returns-then-not-all_are_reached c = λ numbered are entries root linked.
    let items = c.in_ok-push.ensures.items ∙ ap (λ (l : List Reached). l ++ at_path c.root.result 1 ∷ []) c.new-reached.ensures.items ∙ ap (λ (p : List (List ℕ)). at_path p 1 ∷ []) c.root.ensures in
    let first = subst (AreReached numbered) (sym items) (root_reached numbered root) in
    let there = subst (λ (l : List Reached). Contains l (at_path [] 1)) (sym items) (0, omega arith, refl) in
    let closed = subst (Closes numbered c.reach_all.new.reached.items) c.if-not-branch.false (c.in_ok-reach_all.ensures numbered are entries first there) in
    let e = c.if-not-all_are_reached.ensures.1 (λ number some. subst (HasNumber number) (sym c.as_slice.ensures.value)
    (linked_all numbered c.reach_all.new.reached.items closed linked number (use_some numbered c.args.uses.now are number some))) in cc

pub returns : goal.returns
returns c = λ numbered are entries root.
    let items = c.in_ok-push.ensures.items ∙ ap (λ (l : List Reached). l ++ at_path c.root.result 1 ∷ []) c.new-reached.ensures.items ∙ ap (λ (p : List (List ℕ)). at_path p 1 ∷ []) c.root.ensures in
    let first = subst (AreReached numbered) (sym items) (root_reached numbered root) in
    let there = subst (λ (l : List Reached). Contains l (at_path [] 1)) (sym items) (0, omega arith, refl) in
    let closed = subst (Closes numbered c.reach_all.new.reached.items) c.if-not-branch.false (c.in_ok-reach_all.ensures numbered are entries first there) in
    let all = c.if-not-all_are_reached.ensures.0 refl in (
      closed_linked numbered c.reach_all.new.reached.items closed root entries (λ number some. subst (HasNumber number) c.as_slice.ensures.value (all number (some_use numbered c.args.uses.now are number some))),
      closed_places numbered c.reach_all.new.reached.items closed,
    )
