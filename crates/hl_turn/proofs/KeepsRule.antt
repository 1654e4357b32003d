-- Each kind of step keeps the rule.
use Rattle.std.proofs.Common.{◌≡◌, ◌≢◌, ◌⊎◌, ⊎_elim, ℕ, ◌+◌, ◌%◌, ◌^◌, ◌<◌, ◌≤◌, List, [], ◌∷◌, length, set, sum_by, refl, sym, ap, ◌∙◌, subst, arith, length-set}
use mathlib.Core.Option.{none, some, some-injective, some-ne-none}
use mathlib.Core.Option as maybe
use lib.ListN.{get_elem?}
use Rattle.atomic_table.specs.Table.{State, Me}
use Rattle.atomic_table.proofs.Lists.{at_set, set_here, set_else}
use Rattle.hl_turn.specs.declared.view.View.{View}
use Rattle.hl_turn.specs.declared.view.Stage.{Stage}
use Rattle.hl_turn.specs.declared.view.Stage.TheVariants.{Idle, Drawn, Served, Counted, Spent}
use Rattle.hl_turn.specs.Entries.{Begins, by_seat}
use Rattle.hl_turn.specs.Jobs.{Has, Lacks, Distinct, AllMeet, Shifts}
use Rattle.hl_turn.specs.Views.{IsLive, IsBusy, HasObject, weight, moved}
use Rattle.hl_turn.specs.Rule.{IsSpent, IsAtWork, Fits, IsAtHome, LockRule}
use Rattle.hl_turn.proofs.Lists.{at_below, at_one, begins_more}
use Rattle.hl_turn.proofs.GivenOut.{live_unless, numbers_moved}

pub weight_one : (st : Stage) → weight st ≤ 1
weight_one Idle = omega arith
weight_one Drawn = omega arith
weight_one Served = omega arith
weight_one Counted = omega arith
weight_one Spent = omega arith

pub has_busy : (st : Stage) → HasObject st → IsBusy st
has_busy Idle h = absurd h
has_busy Drawn h = absurd h
has_busy Served h = tt
has_busy Counted h = tt
has_busy Spent h = absurd h

module _ {T E I C : Type 0} (entries : T → List E) (seat_of : E → ℕ) (legal_over : T → T → Type 0) (jobs_out : T → T → List (ℕ × C)) (meets : I → C → Type 0) where
  abbrev pub V : Type 0
  V = View T E I C

  abbrev pub St : Type 0
  St = State T V

  abbrev pub M : Type 0
  M = Me T V

  abbrev pub load_of : List V → ℕ
  load_of = sum_by (λ (v : V). weight v.stage)

  abbrev pub words_of : ℕ → ℕ → ℕ → List ℕ
  words_of b a c = (b % 2 ^ 64) ∷ (a % 2 ^ 64) ∷ (c % 2 ^ 64) ∷ []

  pub gone_stays : (views : List V) (id : ℕ) (v w : V) (n : ℕ) → get_elem? views id ≡ some v → IsLive v.stage → IsSpent views n → IsSpent (set views id w) n
  gone_stays views id v w n at live g =
      (g.0, set_else views id n w (λ e. subst IsLive (ap (λ (u : V). u.stage) (at_one views id v g.0 at (ap (get_elem? views) (sym e) ∙ g.1)) ∙ g.2) live) ∙ g.1, g.2)

  -- another view fits as before, where its own entries stay and the list grows
  pub others_fit : (opening : T) (log log' : List E) (outs outs' : List (ℕ × C)) (a b c a' b' c' : ℕ) (views : List V) (id : ℕ) (v w : V) (j : ℕ) (u : V) → Fits entries seat_of legal_over jobs_out meets opening log outs a b c views j u
      → get_elem? views id ≡ some v → IsLive v.stage → j ≢ id
      → ((n : ℕ) → n ≢ id → by_seat seat_of n log' ≡ by_seat seat_of n log) → Begins log log' → c ≤ c'
      → (IsBusy u.stage → (a' ≤ u.ticket) × (u.ticket < b')) → (HasObject u.stage → (u.ticket ≡ a') × (u.seen ≡ log') × (u.outs ≡ outs')) → AllMeet meets outs' u.holds
      → Fits entries seat_of legal_over jobs_out meets opening log' outs' a' b' c' (set views id w) j u
  others_fit opening log log' outs outs' a b c a' b' c' views id v w j u f at live other same grows more waits holds meeting = record {
    from = f.from;
    numbered = f.numbered;
    owns = λ l. same j other ∙ f.owns l;
    begins = begins_more u.seen log log' f.begins grows;
    counts = let h = f.counts in omega arith;
    waits = waits;
    holds = holds;
    meeting = meeting;
    spent_none = f.spent_none;
    keeps = λ k n m e. let g = f.keeps k n m e in
        (gone_stays views id v w n at live g.0, same n (λ h. subst IsLive (ap (λ (z : V). z.stage) (at_one views id v g.0.0 at (ap (get_elem? views) (sym h) ∙ g.0.1)) ∙ g.0.2) live) ∙ g.1);
  }

  pub own_fits : (opening : T) (log log' : List E) (outs outs' : List (ℕ × C)) (a b c a' b' c' : ℕ) (views : List V) (id : ℕ) (v : V) (seen mine : List E) (hold : List (ℕ × I)) (out : List (ℕ × C)) (steps : ℕ) (st : Stage) (t : ℕ)
      → Fits entries seat_of legal_over jobs_out meets opening log outs a b c views id v
      → get_elem? views id ≡ some v → IsLive v.stage
      → ((n : ℕ) → n ≢ id → by_seat seat_of n log' ≡ by_seat seat_of n log) → by_seat seat_of id log' ≡ mine → Begins seen log' → steps ≤ c'
      → (IsBusy st → (a' ≤ t) × (t < b')) → (HasObject st → (t ≡ a') × (seen ≡ log') × (out ≡ outs')) → AllMeet meets outs' hold → (st ≡ Spent → ⊥)
      → Fits entries seat_of legal_over jobs_out meets opening log' outs' a' b' c' (set views id (moved v seen mine hold out steps st t)) id (moved v seen mine hold out steps st t)
  own_fits opening log log' outs outs' a b c a' b' c' views id v seen mine hold out steps st t f at live same here begins counts waits holds meeting alive = record {
    from = λ _. f.from live;
    numbered = λ _. f.numbered live;
    owns = λ _. here;
    begins = begins;
    counts = counts;
    waits = waits;
    holds = holds;
    meeting = meeting;
    spent_none = λ e. absurd (alive e);
    keeps = λ k n m e. let g = f.keeps k n m e in
        (gone_stays views id v (moved v seen mine hold out steps st t) n at live g.0, same n (λ h. subst IsLive (ap (λ (z : V). z.stage) (at_one views id v g.0.0 at (ap (get_elem? views) (sym h) ∙ g.0.1)) ∙ g.0.2) live) ∙ g.1);
  }

  -- one seat goes on, and the others stay
  pub turned : (opening : T) (limit : ℕ) (s : St) (r : LockRule entries seat_of legal_over jobs_out meets opening limit s) (i n : ℕ) (homes : List (maybe.Option T)) (id : ℕ) (v : V)
      (seen mine : List E) (hold : List (ℕ × I)) (out : List (ℕ × C)) (steps : ℕ) (st : Stage) (t : ℕ) (log : List E) (outs : List (ℕ × C)) (a b c : ℕ)
      → get_elem? s.views id ≡ some v → IsLive v.stage
      → set s.words i n ≡ words_of b a c
      → b ≡ a + load_of (set s.views id (moved v seen mine hold out steps st t))
      → ((k : ℕ) → k ≢ id → by_seat seat_of k log ≡ by_seat seat_of k r.log) → by_seat seat_of id log ≡ mine → Begins r.log log → Begins seen log
      → r.count ≤ c → steps ≤ c
      → (IsBusy st → (a ≤ t) × (t < b)) → (HasObject st → (t ≡ a) × (seen ≡ log) × (out ≡ outs)) → (st ≡ Spent → ⊥)
      → Shifts meets v.holds r.outs hold outs
      → ((j : ℕ) (u : V) → get_elem? s.views j ≡ some u → j ≢ id → IsBusy u.stage → (a ≤ u.ticket) × (u.ticket < b) × (IsBusy st → u.ticket ≢ t))
      → ((j : ℕ) (u : V) → get_elem? s.views j ≡ some u → j ≢ id → HasObject u.stage → (u.ticket ≡ a) × (u.seen ≡ log) × (u.outs ≡ outs))
      → ((k : ℕ) → a ≤ k → k < b → (j : ℕ) × (u : V) × (get_elem? (set s.views id (moved v seen mine hold out steps st t)) j ≡ some u) × IsBusy u.stage × (u.ticket ≡ k))
      → IsAtHome entries seat_of legal_over jobs_out meets opening log outs record { words = set s.words i n; homes = homes; views = set s.views id (moved v seen mine hold out steps st t) } ⊎ IsAtWork (set s.views id (moved v seen mine hold out steps st t))
      → LockRule entries seat_of legal_over jobs_out meets opening limit record { words = set s.words i n; homes = homes; views = set s.views id (moved v seen mine hold out steps st t) }
  turned opening limit s r i n homes id v seen mine hold out steps st t log outs a b c at live words waiting same here grows begins counted counts waits holds alive shifts busy others drawn place =
      let w : V = moved v seen mine hold out steps st t in let vs : List V = set s.views id w in
      let lacks : (j : ℕ) (u : V) → get_elem? s.views j ≡ some u → j ≢ id → (k : ℕ) (x : I) → Has u.holds k x → Lacks v.holds k = λ j u e other k x h y own. other (r.single j id u v k x y e at h own) in
      let still : (j : ℕ) (u : V) → get_elem? s.views j ≡ some u → j ≢ id → AllMeet meets outs u.holds = λ j u e other k x h. let m = (r.each j u e).meeting k x h in
      let g = shifts.others k m.0 m.1 (lacks j u e other k x h) in (g.0, g.1, g.2 x m.2) in
      let strange : (j : ℕ) (u : V) → get_elem? s.views j ≡ some u → j ≢ id → (k : ℕ) (x y : I) → Has u.holds k x → Has hold k y → ⊥ = λ j u e other k x y h own.
      ⊎_elim (λ (m : (z : I) × Has v.holds k z). other (r.single j id u v k x m.0 e at h m.1)) (λ (m : Lacks r.outs k). let g = (r.each j u e).meeting k x h in m g.0 g.1) (shifts.own k y own) in record {
        log = log;
        outs = outs;
        serving = a;
        ticket = b;
        count = c;
        words = words;
        few = (subst (λ k. k ≤ limit) (sym (length-set s.views id w)) r.few.0, r.few.1);
        waiting = waiting;
        each = λ j u e. ⊎_elim (λ (x : (j ≡ id) × (w ≡ u)). subst (λ (y : ℕ × V). Fits entries seat_of legal_over jobs_out meets opening log outs a b c vs y.0 y.1) (λ k. (sym x.0 k, x.1 k))
            (own_fits opening r.log log r.outs outs r.serving r.ticket r.count a b c s.views id v seen mine hold out steps st t (r.each id v at) at live same here begins counts waits holds shifts.met alive))
            (λ (x : (j ≢ id) × (get_elem? s.views j ≡ some u)). others_fit opening r.log log r.outs outs r.serving r.ticket r.count a b c s.views id v w j u (r.each j u x.1) at live x.0 same grows counted
            (λ h. let y = busy j u x.1 x.0 h in (y.0, y.1)) (others j u x.1 x.0) (still j u x.1 x.0)) (at_set s.views id j w u e);
        apart = λ j k x y p q bx bk eq.
            ⊎_elim (λ (m : (j ≡ id) × (w ≡ x)). ⊎_elim (λ (l : (k ≡ id) × (w ≡ y)). m.0 ∙ sym l.0)
            (λ (l : (k ≢ id) × (get_elem? s.views k ≡ some y)). absurd ((busy k y l.1 l.0 bk).2 (subst (λ (z : V). IsBusy z.stage) (sym m.1) bx) (sym eq ∙ ap (λ (z : V). z.ticket) (sym m.1)))) (at_set s.views id k w y q))
            (λ (m : (j ≢ id) × (get_elem? s.views j ≡ some x)). ⊎_elim (λ (l : (k ≡ id) × (w ≡ y)). absurd ((busy j x m.1 m.0 bx).2 (subst (λ (z : V). IsBusy z.stage) (sym l.1) bk) (eq ∙ ap (λ (z : V). z.ticket) (sym l.1))))
            (λ (l : (k ≢ id) × (get_elem? s.views k ≡ some y)). r.apart j k x y m.1 l.1 bx bk eq) (at_set s.views id k w y q)) (at_set s.views id j w x p);
        drawn = drawn;
        numbers = numbers_moved s.views id v w at refl refl refl (live_unless st alive) r.numbers;
        unnamed = λ k h. let far : length s.views ≤ k = subst (λ z. z ≤ k) (length-set s.views id w) h in let near = at_below s.views id v at in same k (λ e. omega arith) ∙ r.unnamed k far;
        once = shifts.once;
        single = λ i j x y k a b p q hx hy. ⊎_elim (λ (m : (i ≡ id) × (w ≡ x)). ⊎_elim (λ (l : (j ≡ id) × (w ≡ y)). m.0 ∙ sym l.0)
            (λ (l : (j ≢ id) × (get_elem? s.views j ≡ some y)). absurd (strange j y l.1 l.0 k b a hy (subst (λ (z : V). Has z.holds k a) (sym m.1) hx))) (at_set s.views id j w y q))
            (λ (m : (i ≢ id) × (get_elem? s.views i ≡ some x)). ⊎_elim (λ (l : (j ≡ id) × (w ≡ y)). absurd (strange i x m.1 m.0 k a b hx (subst (λ (z : V). Has z.holds k b) (sym l.1) hy)))
            (λ (l : (j ≢ id) × (get_elem? s.views j ≡ some y)). r.single i j x y k a b m.1 l.1 hx hy) (at_set s.views id j w y q)) (at_set s.views id i w x p);
        distinct = λ j u e. ⊎_elim (λ (x : (j ≡ id) × (w ≡ u)). subst (λ (z : V). Distinct z.holds) x.1 shifts.apart) (λ (x : (j ≢ id) × (get_elem? s.views j ≡ some u)). r.distinct j u x.1) (at_set s.views id j w u e);
        held = λ k d h. ⊎_elim (λ (m : (x : I) × Has hold k x). (id, w, m.0, set_here s.views id w (at_below s.views id v at), m.1))
            (λ (m : ((d : C) × Has r.outs k d) × Lacks v.holds k). let g = r.held k m.0.0 m.0.1 in
            (g.0, g.1, g.2, set_else s.views id g.0 w (λ e. m.1 g.2 (subst (λ (z : V). Has z.holds k g.2) (at_one s.views g.0 g.1 v g.3 (ap (get_elem? s.views) e ∙ at)) g.4)) ∙ g.3, g.4)) (shifts.all k d h);
        place = place;
      }
