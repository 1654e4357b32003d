-- Splitting a seat and joining two keeps the rule.
use Rattle.std.proofs.Common.{◌≡◌, ◌≢◌, ◌⊎◌, ⊎_elim, inl, inr, ℕ, zero, suc, ◌+◌, ◌<◌, ◌≤◌, List, [], ◌∷◌, ◌++◌, length, set, sum_by, refl, sym, ap, ◌∙◌, subst, arith, length-set, length-append}
use Rattle.std.proofs.lemmas.List.Sums.{sum_by-append}
use mathlib.Core.Logic.{dite}
use native.Mathlib.Decide.{ℕ_discrete}
use mathlib.Core.Option.{some, some-injective, some-ne-none}
use lib.ListN.{get_elem?}
use Rattle.atomic_table.specs.Table.{State, Splits, Joins}
use Rattle.atomic_table.proofs.Lists.{at_set, set_here, set_else, at_longer}
use Rattle.hl_turn.specs.declared.view.View.{View}
use Rattle.hl_turn.specs.declared.view.Stage.{Stage}
use Rattle.hl_turn.specs.declared.view.Stage.TheVariants.{Idle, Spent}
use Rattle.hl_turn.specs.Entries.{by_seat}
use Rattle.hl_turn.specs.Jobs.{Has, Distinct}
use Rattle.hl_turn.specs.Views.{IsLive, IsBusy, HasObject, weight, spent_view, left, right, both}
use Rattle.hl_turn.specs.Rule.{IsSpent, IsAtWork, Fits, IsAtHome, LockRule}
use Rattle.hl_turn.proofs.GivenOut.{numbers_split, numbers_join}
use Rattle.hl_turn.proofs.Lists.{at_below, at_one, at_end, at_both, sum_set, begins_longer}

module _ {T E I C : Type 0} (entries : T → List E) (seat_of : E → ℕ) (legal_over : T → T → Type 0) (jobs_out : T → T → List (ℕ × C)) (meets : I → C → Type 0) (opening : T) (limit : ℕ) where
  abbrev V : Type 0
  V = View T E I C

  abbrev St : Type 0
  St = State T V

  abbrev Rule : St → Type 0
  Rule = LockRule entries seat_of legal_over jobs_out meets opening limit

  abbrev load_of : List V → ℕ
  load_of = sum_by (λ (v : V). weight v.stage)

  abbrev Fit : List E → List (ℕ × C) → ℕ → ℕ → ℕ → List V → ℕ → V → Type 0
  Fit = Fits entries seat_of legal_over jobs_out meets opening

  gone_live : (views : List V) (id : ℕ) (v : V) (n : ℕ) → get_elem? views id ≡ some v → IsLive v.stage → IsSpent views n → n ≢ id
  gone_live views id v n at live g e = subst IsLive (ap (λ (u : V). u.stage) (at_one views id v g.0 at (ap (get_elem? views) (sym e) ∙ g.1)) ∙ g.2) live

  -- the same view among other views, of which no fewer are gone
  among : (log : List E) (outs : List (ℕ × C)) (a b c : ℕ) (views views' : List V) (j : ℕ) (u : V) → Fit log outs a b c views j u → ((n : ℕ) → IsSpent views n → IsSpent views' n) → Fit log outs a b c views' j u
  among log outs a b c views views' j u f stay = record {
    from = f.from;
    numbered = f.numbered;
    owns = f.owns;
    begins = f.begins;
    counts = f.counts;
    waits = f.waits;
    holds = f.holds;
    meeting = f.meeting;
    spent_none = f.spent_none;
    keeps = λ k n m e. let g = f.keeps k n m e in (stay n g.0, g.1);
  }

  -- a view that knows how many numbers are given out knows that they are as many as the views
  tells : (s : St) (r : Rule s) (id : ℕ) (v : V) → get_elem? s.views id ≡ some v → 0 < v.made → v.made ≡ length s.views
  tells s r id v at h = let g = r.numbers.given in let near = at_below s.views id v at in let is = g.3 in
      ap (λ (z : V). z.made) (at_one s.views id v g.1 at (ap (get_elem? s.views) (r.numbers.maker id g.0 v g.1 at g.2 h (omega (arith, near, is))) ∙ g.2)) ∙ g.3

  pub splits_seat : (id : ℕ) (v : V) → v.stage ≡ Idle → 0 < v.made → v.made < limit → Splits Rule id v (left v) (right v)
  splits_seat id v idle maker room s r at =
      let l : V = left v in let n : V = right v in let vs : List V = set s.views id l in let all : List V = vs ++ n ∷ [] in
      let f = r.each id v at in
      let live : IsLive v.stage = subst IsLive (sym idle) tt in
      let made : v.made ≡ length s.views = tells s r id v at maker in
      let long : length all ≡ length s.views + 1 = length-append vs (n ∷ []) ∙ ap (λ k. k + 1) (length-set s.views id l) in
      let long' : length vs ≡ v.made = length-set s.views id l ∙ sym made in
      let near : id < length s.views = at_below s.views id v at in
      let stay : (k : ℕ) → IsSpent s.views k → IsSpent all k = λ k g. (g.0, at_longer vs (n ∷ []) k g.0 (set_else s.views id k l (gone_live s.views id v k at live g) ∙ g.1), g.2) in
      let free : (P : Stage → Type 0) → (P Idle → ⊥) → (j : ℕ) (u : V) → get_elem? all j ≡ some u → P u.stage → (j ≢ id) × (get_elem? s.views j ≡ some u) = λ P no j u e p.
      ⊎_elim (λ old. ⊎_elim (λ (x : (j ≡ id) × (l ≡ u)). absurd (no (subst P (ap (λ (z : V). z.stage) (sym x.1) ∙ idle) p))) (λ x. x) (at_set s.views id j l u old))
      (λ (x : (j ≡ length vs) × (n ≡ u)). absurd (no (subst P (ap (λ (z : V). z.stage) (sym x.1)) p))) (at_end vs n u j e) in
      let whose : (j : ℕ) (u : V) → get_elem? all j ≡ some u → (k : ℕ) (a : I) → Has u.holds k a → (w : V) × (get_elem? s.views j ≡ some w) × Has w.holds k a = λ j u e k a h.
      ⊎_elim (λ old. ⊎_elim (λ (x : (j ≡ id) × (l ≡ u)). (v, ap (get_elem? s.views) x.0 ∙ at, subst (λ (z : V). Has z.holds k a) (sym x.1) h)) (λ (x : (j ≢ id) × (get_elem? s.views j ≡ some u)). (u, x.1, h)) (at_set s.views id j l u old))
      (λ (x : (j ≡ length vs) × (n ≡ u)). absurd (let g = subst (λ (z : V). Has z.holds k a) (sym x.1) h in some-ne-none (k, a) (sym g.1))) (at_end vs n u j e) in
      let back : (P : Stage → Type 0) → (P Idle → ⊥) → (j : ℕ) (u : V) → get_elem? s.views j ≡ some u → P u.stage → get_elem? all j ≡ some u = λ P no j u e p.
      at_longer vs (n ∷ []) j u (set_else s.views id j l (λ same. no (subst P (ap (λ (z : V). z.stage) (at_one s.views j u v e (ap (get_elem? s.views) same ∙ at)) ∙ idle) p)) ∙ e) in record {
        log = r.log;
        outs = r.outs;
        serving = r.serving;
        ticket = r.ticket;
        count = r.count;
        words = r.words;
        few = (omega (arith, long, made, room), r.few.1);
        waiting = r.waiting ∙ ap (λ k. r.serving + k) (let e = sum_set (λ (u : V). weight u.stage) s.views id v l at in let h : load_of all ≡ load_of vs + 0 = sum_by-append (λ (u : V). weight u.stage) vs (n ∷ []) in omega (arith, e, h));
        each = λ j u e. ⊎_elim (λ old. ⊎_elim (λ (x : (j ≡ id) × (l ≡ u)). subst (λ (y : ℕ × V). Fit r.log r.outs r.serving r.ticket r.count all y.0 y.1) (λ k. (sym x.0 k, x.1 k)) record {
          from = f.from;
          numbered = f.numbered;
          owns = f.owns;
          begins = f.begins;
          counts = f.counts;
          waits = f.waits;
          holds = f.holds;
          meeting = f.meeting;
          spent_none = f.spent_none;
          keeps = λ k m es at_k. let g = f.keeps k m es at_k in (stay m g.0, g.1);
        }) (λ (x : (j ≢ id) × (get_elem? s.views j ≡ some u)). among r.log r.outs r.serving r.ticket r.count s.views all j u (r.each j u x.1) stay) (at_set s.views id j l u old))
            (λ (x : (j ≡ length vs) × (n ≡ u)). subst (λ (y : ℕ × V). Fit r.log r.outs r.serving r.ticket r.count all y.0 y.1) (λ k. (sym x.0 k, x.1 k)) record {
              from = λ _. f.from live;
              numbered = λ _. sym long';
              owns = λ _. r.unnamed (length vs) (omega (arith, long', made));
              begins = f.begins;
              counts = f.counts;
              waits = λ h. absurd h;
              holds = λ h. absurd h;
              meeting = λ n x h. absurd (some-ne-none (n, x) (sym h.1));
              spent_none = λ _. refl;
              keeps = λ k m es at_k. absurd (some-ne-none (m, es) (sym at_k));
            }) (at_end vs n u j e);
        apart = λ i j x y p q bx bk eq. r.apart i j x y (free IsBusy (λ z. z) i x p bx).1 (free IsBusy (λ z. z) j y q bk).1 bx bk eq;
        drawn = λ k low high. let d = r.drawn k low high in (d.0, d.1, back IsBusy (λ z. z) d.0 d.1 d.2 d.3, d.3, d.4);
        numbers = numbers_split s.views id v at idle maker made r.numbers;
        unnamed = λ k far. r.unnamed k (omega (arith, far, long));
        once = r.once;
        single = λ i j x y k a b p q hx hy. let g = whose i x p k a hx in let h = whose j y q k b hy in r.single i j g.0 h.0 k a b g.1 h.1 g.2 h.2;
        distinct = λ j u e. ⊎_elim (λ old. ⊎_elim (λ (x : (j ≡ id) × (l ≡ u)). subst (λ (z : V). Distinct z.holds) x.1 (r.distinct id v at)) (λ (x : (j ≢ id) × (get_elem? s.views j ≡ some u)). r.distinct j u x.1) (at_set s.views id j l u old))
            (λ (x : (j ≡ length vs) × (n ≡ u)). subst (λ (z : V). Distinct z.holds) x.1 tt) (at_end vs n u j e);
        held = λ k d h. let g = r.held k d h in dite (ℕ_discrete g.0 id)
            (λ e. (id, l, g.2, at_longer vs (n ∷ []) id l (set_here s.views id l near), subst (λ (z : V). Has z.holds k g.2) (at_one s.views g.0 g.1 v g.3 (ap (get_elem? s.views) e ∙ at)) g.4))
            (λ ne. (g.0, g.1, g.2, at_longer vs (n ∷ []) g.0 g.1 (set_else s.views id g.0 l ne ∙ g.3), g.4));
        place = ⊎_elim (λ (h : IsAtHome entries seat_of legal_over jobs_out meets opening r.log r.outs s). inl (h.0, h.1, h.2, h.3, λ x. h.4 (x.0, x.1, (free HasObject (λ z. z) x.0 x.1 x.2 x.3).1, x.3), h.5))
            (λ (h : IsAtWork s.views). inr (h.0, h.1, back HasObject (λ z. z) h.0 h.1 h.2 h.3, h.3)) r.place;
      }

  -- what the joined seat takes over
  kept_there : (log : List E) (outs : List (ℕ × C)) (a b c : ℕ) (views all : List V) (other : ℕ) (w : V) → Fit log outs a b c views other w → IsSpent all other → ((k : ℕ) → IsSpent views k → IsSpent all k) → IsLive w.stage
      → (i m : ℕ) (es : List E) → get_elem? ((w.number, w.mine) ∷ w.ended) i ≡ some (m, es) → IsSpent all m × (by_seat seat_of m log ≡ es)
  kept_there log outs a b c views all other w g gone stay live zero m es e = let p : (w.number, w.mine) ≡ (m, es) = some-injective (w.number, w.mine) (m, es) e in
      let here : m ≡ other = sym (ap (λ (x : ℕ × List E). x.0) p) ∙ g.numbered live in
      (subst (IsSpent all) (sym here) gone, ap (λ n. by_seat seat_of n log) here ∙ (g.owns live ∙ ap (λ (x : ℕ × List E). x.1) p))
  kept_there log outs a b c views all other w g gone stay live (suc i) m es e = let h = g.keeps i m es e in (stay m h.0, h.1)

  pub joins_seats : (id : ℕ) (v : V) (other : ℕ) (w : V) → v.stage ≡ Idle → w.stage ≡ Idle → w.holds ≡ [] → Joins Rule id v other w (both v w) spent_view
  joins_seats id v other w idle idle' empty s r at apart there =
      let b : V = both v w in let vs : List V = set s.views id b in let all : List V = set vs other spent_view in
      let at' : get_elem? s.views other ≡ some w = sym (set_else s.views id other b apart) ∙ there in
      let f = r.each id v at in let g = r.each other w at' in
      let live : IsLive v.stage = subst IsLive (sym idle) tt in let live' : IsLive w.stage = subst IsLive (sym idle') tt in
      let long : length all ≡ length s.views = length-set vs other spent_view ∙ length-set s.views id b in
      let inside : other < length vs = at_below vs other w there in
      let here : get_elem? all id ≡ some b = set_else vs other id spent_view (λ e. apart (sym e)) ∙ set_here s.views id b (at_below s.views id v at) in
      let gone : IsSpent all other = (spent_view, set_here vs other spent_view inside, refl) in
      let keep : (k : ℕ) (u : V) → k ≢ id → k ≢ other → get_elem? s.views k ≡ some u → get_elem? all k ≡ some u = λ k u no no' e. set_else vs other k spent_view no' ∙ (set_else s.views id k b no ∙ e) in
      let stay : (k : ℕ) → IsSpent s.views k → IsSpent all k = λ k h. (h.0, keep k h.0 (gone_live s.views id v k at live h) (gone_live s.views other w k at' live' h) h.1, h.2) in
      let old : (j : ℕ) (u : V) → get_elem? all j ≡ some u → ((j ≡ other) × (spent_view ≡ u)) ⊎ (((j ≡ id) × (b ≡ u)) ⊎ ((j ≢ id) × (get_elem? s.views j ≡ some u))) = λ j u e.
      ⊎_elim inl (λ (x : (j ≢ other) × (get_elem? vs j ≡ some u)). inr (at_set s.views id j b u x.1)) (at_set vs other j spent_view u e) in
      let free : (P : Stage → Type 0) → (P Idle → ⊥) → (P Spent → ⊥) → (j : ℕ) (u : V) → get_elem? all j ≡ some u → P u.stage → get_elem? s.views j ≡ some u = λ P no no' j u e p.
      ⊎_elim (λ (x : (j ≡ other) × (spent_view ≡ u)). absurd (no' (subst P (ap (λ (z : V). z.stage) (sym x.1)) p)))
      (λ y. ⊎_elim (λ (x : (j ≡ id) × (b ≡ u)). absurd (no (subst P (ap (λ (z : V). z.stage) (sym x.1) ∙ idle) p))) (λ (x : (j ≢ id) × (get_elem? s.views j ≡ some u)). x.1) y) (old j u e) in
      let back : (P : Stage → Type 0) → (P Idle → ⊥) → (j : ℕ) (u : V) → get_elem? s.views j ≡ some u → P u.stage → get_elem? all j ≡ some u = λ P no j u e p.
      keep j u (λ same. no (subst P (ap (λ (z : V). z.stage) (at_one s.views j u v e (ap (get_elem? s.views) same ∙ at)) ∙ idle) p))
      (λ same. no (subst P (ap (λ (z : V). z.stage) (at_one s.views j u w e (ap (get_elem? s.views) same ∙ at')) ∙ idle') p)) e in
      let whose : (j : ℕ) (u : V) → get_elem? all j ≡ some u → (k : ℕ) (a : I) → Has u.holds k a → (z : V) × (get_elem? s.views j ≡ some z) × Has z.holds k a = λ j u e k a h.
      ⊎_elim (λ (x : (j ≡ other) × (spent_view ≡ u)). absurd (let g = subst (λ (z : V). Has z.holds k a) (sym x.1) h in some-ne-none (k, a) (sym g.1)))
      (λ y. ⊎_elim (λ (x : (j ≡ id) × (b ≡ u)). (v, ap (get_elem? s.views) x.0 ∙ at, subst (λ (z : V). Has z.holds k a) (sym x.1) h)) (λ (x : (j ≢ id) × (get_elem? s.views j ≡ some u)). (u, x.1, h)) y) (old j u e) in
      let e1 = sum_set (λ (u : V). weight u.stage) s.views id v b at in let e2 = sum_set (λ (u : V). weight u.stage) vs other w spent_view there in let light : weight w.stage ≡ 0 = ap weight idle' in record {
        log = r.log;
        outs = r.outs;
        serving = r.serving;
        ticket = r.ticket;
        count = r.count;
        words = r.words;
        few = (subst (λ k. k ≤ limit) (sym long) r.few.0, r.few.1);
        waiting = r.waiting ∙ ap (λ k. r.serving + k) (omega (arith, e1, e2, light));
        each = λ j u e. ⊎_elim (λ (x : (j ≡ other) × (spent_view ≡ u)). subst (λ (y : V). Fit r.log r.outs r.serving r.ticket r.count all j y) x.1 record {
          from = λ h. absurd h;
          numbered = λ h. absurd h;
          owns = λ h. absurd h;
          begins = (r.log, refl);
          counts = omega arith;
          waits = λ h. absurd h;
          holds = λ h. absurd h;
          meeting = λ n x h. absurd (some-ne-none (n, x) (sym h.1));
          spent_none = λ _. refl;
          keeps = λ k m es at_k. absurd (some-ne-none (m, es) (sym at_k));
        }) (λ y. ⊎_elim (λ (x : (j ≡ id) × (b ≡ u)). subst (λ (y : ℕ × V). Fit r.log r.outs r.serving r.ticket r.count all y.0 y.1) (λ k. (sym x.0 k, x.1 k)) record {
          from = f.from;
          numbered = f.numbered;
          owns = f.owns;
          begins = begins_longer v.seen w.seen r.log f.begins g.begins;
          counts = let one = f.counts in let two = g.counts in omega (arith, one, two);
          waits = f.waits;
          holds = λ h. absurd (subst HasObject idle h);
          meeting = f.meeting;
          spent_none = f.spent_none;
          keeps = λ k m es at_k. ⊎_elim (λ mine. let h = f.keeps k m es mine in (stay m h.0, h.1))
              (λ (theirs : (i : ℕ) × (get_elem? ((w.number, w.mine) ∷ w.ended) i ≡ some (m, es))). kept_there r.log r.outs r.serving r.ticket r.count s.views all other w g gone stay live' theirs.0 m es theirs.1) (at_both v.ended ((w.number, w.mine) ∷ w.ended) k (m, es) at_k);
        }) (λ (x : (j ≢ id) × (get_elem? s.views j ≡ some u)). among r.log r.outs r.serving r.ticket r.count s.views all j u (r.each j u x.1) stay) y) (old j u e);
        apart = λ i j x y p q bx bk eq. r.apart i j x y (free IsBusy (λ z. z) (λ z. z) i x p bx) (free IsBusy (λ z. z) (λ z. z) j y q bk) bx bk eq;
        drawn = λ k low high. let d = r.drawn k low high in (d.0, d.1, back IsBusy (λ z. z) d.0 d.1 d.2 d.3, d.3, d.4);
        numbers = numbers_join s.views id v other w at at' apart live live' (g.numbered live') (λ j u e n a h. ((r.each j u e).keeps h.0 n a h.1).0) r.numbers;
        unnamed = λ k far. r.unnamed k (subst (λ z. z ≤ k) long far);
        once = r.once;
        single = λ i j x y k a c p q hx hy. let g = whose i x p k a hx in let h = whose j y q k c hy in r.single i j g.0 h.0 k a c g.1 h.1 g.2 h.2;
        distinct = λ j u e. ⊎_elim (λ (x : (j ≡ other) × (spent_view ≡ u)). subst (λ (z : V). Distinct z.holds) x.1 tt)
            (λ y. ⊎_elim (λ (x : (j ≡ id) × (b ≡ u)). subst (λ (z : V). Distinct z.holds) x.1 (r.distinct id v at)) (λ (x : (j ≢ id) × (get_elem? s.views j ≡ some u)). r.distinct j u x.1) y) (old j u e);
        held = λ k d h. let g = r.held k d h in dite (ℕ_discrete g.0 id)
            (λ e. (id, b, g.2, here, subst (λ (z : V). Has z.holds k g.2) (at_one s.views g.0 g.1 v g.3 (ap (get_elem? s.views) e ∙ at)) g.4))
            (λ ne. (g.0, g.1, g.2, keep g.0 g.1 ne (λ e. absurd (let m = subst (λ (z : V). Has z.holds k g.2) (at_one s.views g.0 g.1 w g.3 (ap (get_elem? s.views) e ∙ at')) g.4 in let n = subst (λ l. Has l k g.2) empty m in some-ne-none (k, g.2) (sym n.1))) g.3, g.4));
        place = ⊎_elim (λ (h : IsAtHome entries seat_of legal_over jobs_out meets opening r.log r.outs s). inl (h.0, h.1, h.2, h.3, λ x. h.4 (x.0, x.1, free HasObject (λ z. z) (λ z. z) x.0 x.1 x.2 x.3, x.3), h.5))
            (λ (h : IsAtWork s.views). inr (h.0, h.1, back HasObject (λ z. z) h.0 h.1 h.2 h.3, h.3)) r.place;
      }
