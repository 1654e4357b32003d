-- The rule holds of the table as it is made, and says what the object is when all seats are in one.
use Rattle.std.proofs.Common.{◌≡◌, ⊎_elim, ℕ, zero, suc, ◌^◌, ◌<◌, ◌≤◌, inl, List, [], ◌∷◌, length, refl, sym, ap, ◌∙◌, subst, arith}
use mathlib.Core.Option.{some, some-injective, some-ne-none}
use lib.ListN.{get_elem?}
use Rattle.atomic_table.specs.Table.{State, Final, Seen}
use Rattle.atomic_table.specs.Table as table
use Rattle.hl_turn.specs.declared.view.View.{View}
use Rattle.hl_turn.specs.declared.view.Stage.TheVariants.{Idle}
use Rattle.hl_turn.specs.Entries.{Begins, by_seat}
use Rattle.hl_turn.specs.Jobs.{Has, Lacks, Distinct}
use Rattle.hl_turn.specs.Views.{IsLive, HasObject, starting, IsKept, Covers}
use Rattle.hl_turn.specs.Rule.{IsAtWork, Fits, IsAtHome, LockRule}
use Rattle.hl_turn.specs.Lock.{Seated}
use Rattle.hl_turn.proofs.Lists.{at_below, at_one}
use Rattle.hl_turn.proofs.Jobs.{lacks_all}
use Rattle.hl_turn.proofs.GivenOut.{numbers_start}
use Rattle.hl_turn.proofs.SeatRows.{all_covered, each_mine}

module _ {T E I C : Type 0} (entries : T → List E) (seat_of : E → ℕ) (legal_over : T → T → Type 0) (jobs_out : T → T → List (ℕ × C)) (meets : I → C → Type 0) (opening : T) (limit : ℕ) where
  abbrev V : Type 0
  V = View T E I C

  abbrev St : Type 0
  St = State T V

  abbrev Rule : St → Type 0
  Rule = LockRule entries seat_of legal_over jobs_out meets opening limit

  abbrev Fit : List E → List (ℕ × C) → ℕ → ℕ → ℕ → List V → ℕ → V → Type 0
  Fit = Fits entries seat_of legal_over jobs_out meets opening

  only : (j : ℕ) (u : V) → get_elem? (starting opening ∷ []) j ≡ some u → (j ≡ 0) × (starting opening ≡ u)
  only zero u e = (refl, some-injective (starting opening) u e)
  only (suc j) u e = absurd (some-ne-none u (sym e))

  -- the table as it is made
  pub starts : (x : T) → entries x ≡ [] → jobs_out opening x ≡ [] → legal_over opening x → 0 < limit → limit < 2 ^ 32 → Rule (table.opening (0 ∷ 0 ∷ 0 ∷ []) (x ∷ []) (starting opening))
  starts x none_yet none_out legal some_seat few = record {
    log = [];
    outs = [];
    serving = 0;
    ticket = 0;
    count = 0;
    words = refl;
    few = (omega (arith, some_seat), few);
    waiting = refl;
    each = λ j u e. let m = only j u e in subst (λ (y : ℕ × V). Fit [] [] 0 0 0 (starting opening ∷ []) y.0 y.1) (λ k. (sym m.0 k, m.1 k)) record {
      from = λ _. refl;
      numbered = λ _. refl;
      owns = λ _. refl;
      begins = ([], refl);
      counts = omega arith;
      waits = λ h. absurd h;
      holds = λ h. absurd h;
      meeting = λ n x h. absurd (some-ne-none (n, x) (sym h.1));
      spent_none = λ _. refl;
      keeps = λ k n es at_k. absurd (some-ne-none (n, es) (sym at_k));
    };
    apart = λ i j x y p q bx bk eq. (only i x p).0 ∙ sym (only j y q).0;
    drawn = λ k low high. absurd (omega (arith, low, high));
    numbers = numbers_start opening;
    unnamed = λ n _. refl;
    once = tt;
    single = λ i j x y k a b p q hx hy. (only i x p).0 ∙ sym (only j y q).0;
    distinct = λ j u e. subst (λ (z : V). Distinct z.holds) (only j u e).1 tt;
    held = λ n c h. absurd (some-ne-none (n, c) (sym h.1));
    place = inl (x, refl, none_yet, legal, λ h. subst HasObject (ap (λ (z : V). z.stage) (sym (only h.0 h.1 h.2).1)) h.3, none_out);
  }

  -- all are joined into one seat: the object is at home
  pub ends : (id : ℕ) (v : V) (ws : List ℕ) (y : T) (xs : List T) → v.stage ≡ Idle → v.holds ≡ [] → Covers limit v → get_elem? xs 0 ≡ some y → Final (Seen Rule id v) ws xs
      → legal_over opening y × (by_seat seat_of v.number (entries y) ≡ v.mine) × Begins v.seen (entries y) × ((k n : ℕ) (m : List E) → get_elem? v.ended k ≡ some (n, m) → by_seat seat_of n (entries y) ≡ m) × ((n : ℕ) → Lacks (jobs_out opening y) n) × ((n : ℕ) → limit ≤ n → by_seat seat_of n (entries y) ≡ [])
  ends id v ws y xs idle empty covers first final =
      let s : St = final.0 in let r : Rule s = final.1.0 in let at = final.1.1 in
      let f = r.each id v at in
      let live : IsLive v.stage = subst IsLive (sym idle) tt in
      let mine : v.number ≡ id = f.numbered live in
      let none_out : IsAtWork s.views → ⊥ = λ h. let near = at_below s.views h.0 h.1 h.2 in let few = r.few.0 in
      ⊎_elim (λ (e : h.0 ≡ v.number). subst HasObject (ap (λ (z : V). z.stage) (at_one s.views h.0 h.1 v h.2 (ap (get_elem? s.views) (e ∙ mine) ∙ at)) ∙ idle) h.3)
      (λ (x : (k : ℕ) × (m : List E) × (get_elem? v.ended k ≡ some (h.0, m))). let g = (f.keeps x.0 h.0 x.1 x.2).0 in
      subst HasObject (ap (λ (z : V). z.stage) (at_one s.views h.0 h.1 g.0 h.2 g.1) ∙ g.2) h.3) (covers h.0 (omega (arith, near, few))) in
      let home : IsAtHome entries seat_of legal_over jobs_out meets opening r.log r.outs s = ⊎_elim (λ h. h) (λ h. absurd (none_out h)) r.place in
      let same : y ≡ home.0 = at_one xs 0 y home.0 first (final.4 0 home.0 home.1) in
      let whole : entries y ≡ r.log = ap entries same ∙ home.2 in (
        subst (legal_over opening) (sym same) home.3,
        ap (by_seat seat_of v.number) whole ∙ (ap (λ n. by_seat seat_of n r.log) mine ∙ f.owns live),
        subst (λ l. Begins v.seen l) (sym whole) f.begins,
        λ k n m e. ap (by_seat seat_of n) whole ∙ (f.keeps k n m e).1,
        λ n c h. let g = r.held n c (subst (λ l. Has l n c) (ap (jobs_out opening) same ∙ home.5) h) in let near = at_below s.views g.0 g.1 g.3 in let few = r.few.0 in
            let no : (l : List (ℕ × I)) → l ≡ [] → Has l n g.2 → ⊥ = λ l e m. let o = subst (λ z. Has z n g.2) e m in some-ne-none (n, g.2) (sym o.1) in
            ⊎_elim (λ (e : g.0 ≡ v.number). no v.holds empty (subst (λ (z : V). Has z.holds n g.2) (at_one s.views g.0 g.1 v g.3 (ap (get_elem? s.views) (e ∙ mine) ∙ at)) g.4))
            (λ (x : (k : ℕ) × (m : List E) × (get_elem? v.ended k ≡ some (g.0, m))). let gone = (f.keeps x.0 g.0 x.1 x.2).0 in
            no g.1.holds ((r.each g.0 g.1 g.3).spent_none (ap (λ (z : V). z.stage) (at_one s.views g.0 g.1 gone.0 g.3 gone.1) ∙ gone.2)) g.4) (covers g.0 (omega (arith, near, few))),
        λ n far. ap (by_seat seat_of n) whole ∙ r.unnamed n (let few = r.few.0 in omega (arith, far, few)),
      )

  -- what holds of the object that is taken back
  pub record Closes (seats : List (Seated T E I C)) (y : T) : Type 0 where
    pub legal : legal_over opening y
    pub mine : (k : ℕ) (t : Seated T E I C) → get_elem? seats k ≡ some t → by_seat seat_of k (entries y) ≡ t.view.mine
    pub no_others : (k : ℕ) → limit ≤ k → by_seat seat_of k (entries y) ≡ []
    pub none_out : jobs_out opening y ≡ []

  pub closes : (seats : List (Seated T E I C)) (id : ℕ) (v : V) (ws : List ℕ) (y : T) (xs : List T) → v.stage ≡ Idle → v.holds ≡ [] → length seats ≡ limit
      → ((k : ℕ) (t : Seated T E I C) → get_elem? seats k ≡ some t → t.view.number ≡ k) → ((k : ℕ) (t : Seated T E I C) → get_elem? seats k ≡ some t → IsKept t.view.number t.view.mine v)
      → get_elem? xs 0 ≡ some y → Final (Seen Rule id v) ws xs → Closes seats y
  closes seats id v ws y xs idle empty long named kept first final = let e = ends id v ws y xs idle empty (all_covered seats limit v long named kept) first final in record {
    legal = e.0;
    mine = λ k t at. each_mine (entries y) seat_of v k t (named k t at) (kept k t at) e.1 e.3;
    no_others = e.5;
    none_out = lacks_all (jobs_out opening y) e.4;
  }
