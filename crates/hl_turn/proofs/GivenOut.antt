-- Each kind of step keeps the numbers that are given out: each stands once among the views.
use Rattle.std.proofs.Common.{◌≡◌, ◌≢◌, ◌⊎◌, ⊎_elim, inl, inr, ℕ, zero, suc, ◌+◌, ◌<◌, max, List, [], ◌∷◌, ◌++◌, length, set, refl, sym, ap, ◌∙◌, subst, arith, length-set, length-append}
use mathlib.Core.Logic.{dite}
use native.Mathlib.Decide.{ℕ_discrete}
use mathlib.Core.Option.{some, some-injective, some-ne-none}
use lib.ListN.{get_elem?}
use Rattle.atomic_table.proofs.Lists.{at_set, set_here, set_else, at_longer}
use Rattle.hl_turn.specs.declared.view.View.{View}
use Rattle.hl_turn.specs.declared.view.Stage.{Stage}
use Rattle.hl_turn.specs.declared.view.Stage.TheVariants.{Idle, Drawn, Served, Counted, Spent}
use Rattle.hl_turn.specs.Jobs.{Has, Distinct}
use Rattle.hl_turn.specs.Views.{IsLive, starting, spent_view, left, right, both}
use Rattle.hl_turn.specs.Rule.{IsSpent, AreNumbered}
use Rattle.hl_turn.proofs.Lists.{at_below, at_one, at_end}
use Rattle.hl_turn.proofs.Jobs.{has_cases, has_left, has_right, has_either_list, distinct_join}

-- what isn't spent is live
pub live_unless : (st : Stage) → (st ≡ Spent → ⊥) → IsLive st
live_unless Idle alive = tt
live_unless Drawn alive = tt
live_unless Served alive = tt
live_unless Counted alive = tt
live_unless Spent alive = absurd (alive refl)

-- the greater of two numbers, of which each is none or n
greater_of : (a b n : ℕ) → (0 < a → a ≡ n) → (0 < b → b ≡ n) → 0 < max a b → max a b ≡ n
greater_of a b n one two some_made = dite (ℕ_discrete a 0)
    (λ none. let is : b ≡ n = two (omega (arith, some_made, none)) in omega (arith, is, none))
    (λ more. let is : a ≡ n = one (omega (arith, more)) in dite (ℕ_discrete b 0) (λ none. omega (arith, is, none)) (λ most. let same : b ≡ n = two (omega (arith, most)) in omega (arith, is, same)))

nothing_kept : {E : Type 0} (n : ℕ) (a : E) → Has [] n a → ⊥
nothing_kept n a h = some-ne-none (n, a) (sym h.1)

module _ {T E I C : Type 0} where
  -- the numbers of a lock that is made
  pub numbers_start : (o : T) → AreNumbered {T = T} {E = E} {I = I} {C = C} (starting o ∷ [])
  numbers_start o = record {
    given = (0, starting o, refl, refl);
    maker = λ i j v w p q _ _. (only i v p).0 ∙ sym (only j w q).0;
    stands = λ n lt. (0, starting o, refl, tt, inl (omega (arith, lt)));
    kept_once = λ i j v w n a b p q _ _. (only i v p).0 ∙ sym (only j w q).0;
    kept_apart = λ j v e. subst (λ (z : View T E I C). Distinct z.ended) (only j v e).1 tt;
  }
    where
      only : (j : ℕ) (u : View T E I C) → get_elem? (starting o ∷ []) j ≡ some u → (j ≡ 0) × (starting o ≡ u)
      only zero u e = (refl, some-injective (starting o) u e)
      only (suc j) u e = absurd (some-ne-none u (sym e))

  -- a view goes on with its numbers
  pub numbers_moved : (views : List (View T E I C)) (id : ℕ) (v w : View T E I C) → get_elem? views id ≡ some v → w.made ≡ v.made → w.number ≡ v.number → w.ended ≡ v.ended → IsLive w.stage → AreNumbered views → AreNumbered (set views id w)
  numbers_moved views id v w at made number ended live r =
      let vs : List (View T E I C) = set views id w in
      let long : length vs ≡ length views = length-set views id w in
      let back : (j : ℕ) (u : View T E I C) → get_elem? vs j ≡ some u → (z : View T E I C) × (get_elem? views j ≡ some z) × (u.made ≡ z.made) × (u.ended ≡ z.ended) = λ j u e.
      ⊎_elim (λ (x : (j ≡ id) × (w ≡ u)). (v, ap (get_elem? views) x.0 ∙ at, ap (λ (z : View T E I C). z.made) (sym x.1) ∙ made, ap (λ (z : View T E I C). z.ended) (sym x.1) ∙ ended)) (λ (x : (j ≢ id) × (get_elem? views j ≡ some u)). (u, x.1, refl, refl)) (at_set views id j w u e) in
      let forth : (j : ℕ) (z : View T E I C) → get_elem? views j ≡ some z → (u : View T E I C) × (get_elem? vs j ≡ some u) × (u.made ≡ z.made) × (u.number ≡ z.number) × (u.ended ≡ z.ended) × (IsLive z.stage → IsLive u.stage) = λ j z e. dite (ℕ_discrete j id)
      (λ same. let own : v ≡ z = at_one views j v z (ap (get_elem? views) same ∙ at) e in
      (w, ap (get_elem? vs) same ∙ set_here views id w (at_below views id v at), made ∙ ap (λ (y : View T E I C). y.made) own, number ∙ ap (λ (y : View T E I C). y.number) own, ended ∙ ap (λ (y : View T E I C). y.ended) own, λ _. live))
      (λ ne. (z, set_else views id j w ne ∙ e, refl, refl, refl, λ h. h)) in record {
        given = let g = r.given in let u = forth g.0 g.1 g.2 in (g.0, u.0, u.1, u.2 ∙ g.3 ∙ sym long);
        maker = λ i j x y p q a b. let x' = back i x p in let y' = back j y q in r.maker i j x'.0 y'.0 x'.1 y'.1 (subst (λ n. 0 < n) x'.2 a) (subst (λ n. 0 < n) y'.2 b);
        stands = λ n lt. let s = r.stands n (subst (λ k. n < k) long lt) in let u = forth s.0 s.1 s.2 in
            (s.0, u.0, u.1, u.5 s.3, ⊎_elim (λ (e : s.1.number ≡ n). inl (u.3 ∙ e)) (λ (h : (m : List E) × Has s.1.ended n m). inr (h.0, subst (λ l. Has l n h.0) (sym u.4) h.1)) s.4);
        kept_once = λ i j x y n a b p q hx hy. let x' = back i x p in let y' = back j y q in r.kept_once i j x'.0 y'.0 n a b x'.1 y'.1 (subst (λ l. Has l n a) x'.3 hx) (subst (λ l. Has l n b) y'.3 hy);
        kept_apart = λ j u e. let z = back j u e in subst (λ (l : List (ℕ × List E)). Distinct l) (sym z.3) (r.kept_apart j z.0 z.1);
      }

  -- a view gives out one number more
  pub numbers_split : (views : List (View T E I C)) (id : ℕ) (v : View T E I C) → get_elem? views id ≡ some v → v.stage ≡ Idle → 0 < v.made → v.made ≡ length views → AreNumbered views → AreNumbered (set views id (left v) ++ right v ∷ [])
  numbers_split views id v at idle maker made r =
      let l : View T E I C = left v in let n : View T E I C = right v in let vs : List (View T E I C) = set views id l in let all : List (View T E I C) = vs ++ n ∷ [] in
      let long : length all ≡ length views + 1 = length-append vs (n ∷ []) ∙ ap (λ k. k + 1) (length-set views id l) in
      let long' : length vs ≡ v.made = length-set views id l ∙ sym made in
      let here : get_elem? all id ≡ some l = at_longer vs (n ∷ []) id l (set_here views id l (at_below views id v at)) in
      let alone : (j : ℕ) (u : View T E I C) → get_elem? all j ≡ some u → 0 < u.made → j ≡ id = λ j u e h.
      ⊎_elim (λ old. ⊎_elim (λ (x : (j ≡ id) × (l ≡ u)). x.0) (λ (x : (j ≢ id) × (get_elem? views j ≡ some u)). r.maker j id u v x.1 at h maker) (at_set views id j l u old))
      (λ (x : (j ≡ length vs) × (n ≡ u)). absurd (let none : u.made ≡ 0 = ap (λ (z : View T E I C). z.made) (sym x.1) in omega (arith, h, none))) (at_end vs n u j e) in
      let back : (j : ℕ) (u : View T E I C) → get_elem? all j ≡ some u → ((z : View T E I C) × (get_elem? views j ≡ some z) × (u.ended ≡ z.ended)) ⊎ (u.ended ≡ []) = λ j u e.
      ⊎_elim (λ old. ⊎_elim (λ (x : (j ≡ id) × (l ≡ u)). inl (v, ap (get_elem? views) x.0 ∙ at, ap (λ (z : View T E I C). z.ended) (sym x.1))) (λ (x : (j ≢ id) × (get_elem? views j ≡ some u)). inl (u, x.1, refl)) (at_set views id j l u old))
      (λ (x : (j ≡ length vs) × (n ≡ u)). inr (ap (λ (z : View T E I C). z.ended) (sym x.1))) (at_end vs n u j e) in
      let whose : (j : ℕ) (u : View T E I C) (k : ℕ) (a : List E) → get_elem? all j ≡ some u → Has u.ended k a → (z : View T E I C) × (get_elem? views j ≡ some z) × Has z.ended k a = λ j u k a e h.
      ⊎_elim (λ (x : (z : View T E I C) × (get_elem? views j ≡ some z) × (u.ended ≡ z.ended)). (x.0, x.1, subst (λ m. Has m k a) x.2 h)) (λ (none : u.ended ≡ []). absurd (nothing_kept k a (subst (λ m. Has m k a) none h))) (back j u e) in record {
        given = (id, l, here, ap (λ k. k + 1) made ∙ sym long);
        maker = λ i j x y p q a b. alone i x p a ∙ sym (alone j y q b);
        stands = λ k lt. dite (ℕ_discrete k (length vs)) (λ e. (length vs, n, at_new vs n, tt, inl (sym long' ∙ sym e)))
            (λ ne. let s = r.stands k (let size = length-set views id l in omega (arith, lt, long, ne, size)) in dite (ℕ_discrete s.0 id)
            (λ same. let own : s.1 ≡ v = at_one views s.0 s.1 v s.2 (ap (get_elem? views) same ∙ at) in
            (id, l, here, subst IsLive (sym idle) tt, subst (λ (z : View T E I C). (z.number ≡ k) ⊎ ((m : List E) × Has z.ended k m)) own s.4))
            (λ other. (s.0, s.1, at_longer vs (n ∷ []) s.0 s.1 (set_else views id s.0 l other ∙ s.2), s.3, s.4)));
        kept_once = λ i j x y k a b p q hx hy. let x' = whose i x k a p hx in let y' = whose j y k b q hy in r.kept_once i j x'.0 y'.0 k a b x'.1 y'.1 x'.2 y'.2;
        kept_apart = λ j u e. ⊎_elim (λ (x : (z : View T E I C) × (get_elem? views j ≡ some z) × (u.ended ≡ z.ended)). subst (λ (m : List (ℕ × List E)). Distinct m) (sym x.2) (r.kept_apart j x.0 x.1))
            (λ (none : u.ended ≡ []). subst (λ (m : List (ℕ × List E)). Distinct m) (sym none) tt) (back j u e);
      }
    where
      at_new : (l : List (View T E I C)) (x : View T E I C) → get_elem? (l ++ x ∷ []) (length l) ≡ some x
      at_new [] x = refl
      at_new (y ∷ ys) x = at_new ys x

  -- a seat is joined into another, where each number that is kept is that of a spent view
  pub numbers_join : (views : List (View T E I C)) (id : ℕ) (v : View T E I C) (other : ℕ) (w : View T E I C) → get_elem? views id ≡ some v → get_elem? views other ≡ some w → other ≢ id → IsLive v.stage → IsLive w.stage → w.number ≡ other
      → ((j : ℕ) (u : View T E I C) → get_elem? views j ≡ some u → (n : ℕ) (a : List E) → Has u.ended n a → IsSpent views n) → AreNumbered views → AreNumbered (set (set views id (both v w)) other spent_view)
  numbers_join views id v other w at at' apart live live' named spent r =
      let b : View T E I C = both v w in let vs : List (View T E I C) = set views id b in let all : List (View T E I C) = set vs other spent_view in
      let there : get_elem? vs other ≡ some w = set_else views id other b apart ∙ at' in
      let long : length all ≡ length views = length-set vs other spent_view ∙ length-set views id b in
      let here : get_elem? all id ≡ some b = set_else vs other id spent_view (λ e. apart (sym e)) ∙ set_here views id b (at_below views id v at) in
      let gone : get_elem? all other ≡ some spent_view = set_here vs other spent_view (at_below vs other w there) in
      let keep : (j : ℕ) (u : View T E I C) → j ≢ id → j ≢ other → get_elem? views j ≡ some u → get_elem? all j ≡ some u = λ j u no no' e. set_else vs other j spent_view no' ∙ (set_else views id j b no ∙ e) in
      let Cases : ℕ → View T E I C → Type 0 = λ j u. ((j ≡ other) × (spent_view ≡ u)) ⊎ (((j ≡ id) × (b ≡ u)) ⊎ ((j ≢ other) × (j ≢ id) × (get_elem? views j ≡ some u))) in
      let old : (j : ℕ) (u : View T E I C) → get_elem? all j ≡ some u → Cases j u = λ j u e.
      ⊎_elim inl (λ (x : (j ≢ other) × (get_elem? vs j ≡ some u)). inr (⊎_elim inl (λ (y : (j ≢ id) × (get_elem? views j ≡ some u)). inr (x.0, y.0, y.1)) (at_set views id j b u x.1))) (at_set vs other j spent_view u e) in
      let full : (j : ℕ) (u : View T E I C) → get_elem? views j ≡ some u → 0 < u.made → u.made ≡ length views = λ j u e h. let g = r.given in let near = at_below views j u e in let is = g.3 in
      let some_made : 0 < g.1.made = omega (arith, near, is) in let same : j ≡ g.0 = r.maker j g.0 u g.1 e g.2 h some_made in
      ap (λ (z : View T E I C). z.made) (at_one views j u g.1 e (ap (get_elem? views) same ∙ g.2)) ∙ g.3 in
      let whole : 0 < b.made → b.made ≡ length views = greater_of v.made w.made (length views) (full id v at) (full other w at') in
      let maker_of : (j : ℕ) (u : View T E I C) → get_elem? all j ≡ some u → 0 < u.made → (i : ℕ) × (z : View T E I C) × (get_elem? views i ≡ some z) × (0 < z.made) × (((i ≡ j) × (j ≢ other)) ⊎ ((i ≡ other) × (j ≡ id))) = λ j u e h.
      ⊎_elim (λ (x : (j ≡ other) × (spent_view ≡ u)). absurd (let none : u.made ≡ 0 = ap (λ (z : View T E I C). z.made) (sym x.1) in omega (arith, h, none)))
      (λ y. ⊎_elim (λ (x : (j ≡ id) × (b ≡ u)). let own : u.made ≡ max v.made w.made = ap (λ (z : View T E I C). z.made) (sym x.1) in dite (ℕ_discrete v.made 0)
      (λ none. (other, w, at', omega (arith, own, h, none), inr (refl, x.0)))
      (λ more. (id, v, at, omega (arith, more), inl (sym x.0, λ e. apart (sym e ∙ x.0)))))
      (λ (x : (j ≢ other) × (j ≢ id) × (get_elem? views j ≡ some u)). (j, u, x.2, h, inl (refl, x.0))) y) (old j u e) in
      let kept_of : (j : ℕ) (u : View T E I C) (n : ℕ) (a : List E) → get_elem? all j ≡ some u → Has u.ended n a → ((i : ℕ) × (z : View T E I C) × (get_elem? views i ≡ some z) × Has z.ended n a × (((i ≡ j) × (j ≢ other)) ⊎ ((i ≡ other) × (j ≡ id)))) ⊎ ((n ≡ other) × (j ≡ id)) = λ j u n a e h.
      ⊎_elim (λ (x : (j ≡ other) × (spent_view ≡ u)). absurd (nothing_kept n a (subst (λ (z : View T E I C). Has z.ended n a) (sym x.1) h)))
      (λ y. ⊎_elim (λ (x : (j ≡ id) × (b ≡ u)). let own : Has (v.ended ++ (w.number, w.mine) ∷ w.ended) n a = subst (λ (z : View T E I C). Has z.ended n a) (sym x.1) h in
      ⊎_elim (λ (mine : Has v.ended n a). inl (id, v, at, mine, inl (sym x.0, λ e. apart (sym e ∙ x.0))))
      (λ (theirs : Has ((w.number, w.mine) ∷ w.ended) n a). ⊎_elim (λ p. inr (sym (ap (λ (q : ℕ × List E). q.0) p) ∙ named, x.0)) (λ (g : Has w.ended n a). inl (other, w, at', g, inr (refl, x.0))) (has_cases (w.number, w.mine) w.ended n a theirs))
      (has_either_list v.ended ((w.number, w.mine) ∷ w.ended) n a own))
      (λ (x : (j ≢ other) × (j ≢ id) × (get_elem? views j ≡ some u)). inl (j, u, x.2, h, inl (refl, x.0))) y) (old j u e) in
      let same_place : (i j i' j' : ℕ) → i ≡ i' → (((i ≡ j) × (j ≢ other)) ⊎ ((i ≡ other) × (j ≡ id))) → (((i' ≡ j') × (j' ≢ other)) ⊎ ((i' ≡ other) × (j' ≡ id))) → j ≡ j' = λ i j i' j' e p q.
      ⊎_elim (λ (x : (i ≡ j) × (j ≢ other)). ⊎_elim (λ (y : (i' ≡ j') × (j' ≢ other)). sym x.0 ∙ e ∙ y.0) (λ (y : (i' ≡ other) × (j' ≡ id)). absurd (x.1 (sym x.0 ∙ e ∙ y.0))) q)
      (λ (x : (i ≡ other) × (j ≡ id)). ⊎_elim (λ (y : (i' ≡ j') × (j' ≢ other)). absurd (y.1 (sym y.0 ∙ sym e ∙ x.0))) (λ (y : (i' ≡ other) × (j' ≡ id)). x.1 ∙ sym y.1) q) p in
      let alive : IsSpent views other → ⊥ = λ g. subst IsLive (ap (λ (z : View T E I C). z.stage) (at_one views other w g.0 at' g.1) ∙ g.2) live' in record {
        given = let g = r.given in dite (ℕ_discrete g.0 other)
            (λ e. let m : w.made ≡ length views = ap (λ (z : View T E I C). z.made) (at_one views g.0 w g.1 (ap (get_elem? views) e ∙ at') g.2) ∙ g.3 in let near = at_below views id v at in (id, b, here, whole (omega (arith, m, near)) ∙ sym long))
            (λ ne. dite (ℕ_discrete g.0 id)
            (λ e. let m : v.made ≡ length views = ap (λ (z : View T E I C). z.made) (at_one views g.0 v g.1 (ap (get_elem? views) e ∙ at) g.2) ∙ g.3 in let near = at_below views id v at in (id, b, here, whole (omega (arith, m, near)) ∙ sym long))
            (λ no. (g.0, g.1, keep g.0 g.1 no ne g.2, g.3 ∙ sym long)));
        maker = λ i j x y p q a c. let m = maker_of i x p a in let n = maker_of j y q c in same_place m.0 i n.0 j (r.maker m.0 n.0 m.1 n.1 m.2 n.2 m.3 n.3) m.4 n.4;
        stands = λ n lt. let s = r.stands n (subst (λ k. n < k) long lt) in dite (ℕ_discrete s.0 other)
            (λ e. let own : s.1 ≡ w = at_one views s.0 s.1 w s.2 (ap (get_elem? views) e ∙ at') in (
              id,
              b,
              here,
              live,
              ⊎_elim (λ (k : s.1.number ≡ n). let is : w.number ≡ n = ap (λ (z : View T E I C). z.number) (sym own) ∙ k in
                  inr (w.mine, has_right v.ended ((w.number, w.mine) ∷ w.ended) n w.mine (zero, ap (λ k. some (k, w.mine)) is)))
                  (λ (h : (m : List E) × Has s.1.ended n m). let g : Has w.ended n h.0 = subst (λ (z : View T E I C). Has z.ended n h.0) own h.1 in
                  inr (h.0, has_right v.ended ((w.number, w.mine) ∷ w.ended) n h.0 (suc g.0, g.1))) s.4,
            ))
            (λ ne. dite (ℕ_discrete s.0 id)
            (λ e. let own : s.1 ≡ v = at_one views s.0 s.1 v s.2 (ap (get_elem? views) e ∙ at) in (
              id,
              b,
              here,
              live,
              ⊎_elim (λ (k : s.1.number ≡ n). inl (ap (λ (z : View T E I C). z.number) (sym own) ∙ k))
                  (λ (h : (m : List E) × Has s.1.ended n m). inr (h.0, has_left v.ended ((w.number, w.mine) ∷ w.ended) n h.0 (subst (λ (z : View T E I C). Has z.ended n h.0) own h.1))) s.4,
            ))
            (λ no. (s.0, s.1, keep s.0 s.1 no ne s.2, s.3, s.4)));
        kept_once = λ i j x y n a c p q hx hy. ⊎_elim
            (λ (m : (k : ℕ) × (z : View T E I C) × (get_elem? views k ≡ some z) × Has z.ended n a × (((k ≡ i) × (i ≢ other)) ⊎ ((k ≡ other) × (i ≡ id)))).
            ⊎_elim (λ (l : (k : ℕ) × (z : View T E I C) × (get_elem? views k ≡ some z) × Has z.ended n c × (((k ≡ j) × (j ≢ other)) ⊎ ((k ≡ other) × (j ≡ id)))).
            same_place m.0 i l.0 j (r.kept_once m.0 l.0 m.1 l.1 n a c m.2 l.2 m.3 l.3) m.4 l.4)
            (λ (l : (n ≡ other) × (j ≡ id)). absurd (alive (subst (IsSpent views) l.0 (spent m.0 m.1 m.2 n a m.3)))) (kept_of j y n c q hy))
            (λ (m : (n ≡ other) × (i ≡ id)). ⊎_elim (λ (l : (k : ℕ) × (z : View T E I C) × (get_elem? views k ≡ some z) × Has z.ended n c × (((k ≡ j) × (j ≢ other)) ⊎ ((k ≡ other) × (j ≡ id)))).
            absurd (alive (subst (IsSpent views) m.0 (spent l.0 l.1 l.2 n c l.3)))) (λ (l : (n ≡ other) × (j ≡ id)). m.1 ∙ sym l.1) (kept_of j y n c q hy)) (kept_of i x n a p hx);
        kept_apart = λ j u e. ⊎_elim (λ (x : (j ≡ other) × (spent_view ≡ u)). subst (λ (z : View T E I C). Distinct z.ended) x.1 tt)
            (λ y. ⊎_elim (λ (x : (j ≡ id) × (b ≡ u)). subst (λ (z : View T E I C). Distinct z.ended) x.1 (distinct_join v.ended ((w.number, w.mine) ∷ w.ended) (r.kept_apart id v at)
            (λ a h. alive (subst (IsSpent views) named (spent other w at' w.number a h)), r.kept_apart other w at')
            (λ n a c hx hy. ⊎_elim (λ p. alive (subst (IsSpent views) (sym (ap (λ (q : ℕ × List E). q.0) p) ∙ named) (spent id v at n a hx)))
            (λ (g : Has w.ended n c). apart (sym (r.kept_once id other v w n a c at at' hx g))) (has_cases (w.number, w.mine) w.ended n c hy))))
            (λ (x : (j ≢ other) × (j ≢ id) × (get_elem? views j ≡ some u)). r.kept_apart j u x.2) y) (old j u e);
      }
