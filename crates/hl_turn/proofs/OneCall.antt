-- What the steps of one call tell, put together.
use Rattle.std.proofs.Common.{◌≡◌, ℕ, ◌+◌, ◌%◌, ◌^◌, ◌<◌, Option, Some, List, [], ◌∷◌, ◌++◌, refl, sym, ap, ◌∙◌, subst}
use Rattle.std.proofs.lemmas.List.{append_cancel_left}
use Rattle.atomic_table.specs.Table.{Me, Allows, rest}
use Rattle.hl_turn.specs.declared.view.View.{View}
use Rattle.hl_turn.specs.declared.view.Stage.TheVariants.{Idle, Served, Counted}
use Rattle.hl_turn.specs.Entries.{IsOwn, Begins}
use Rattle.hl_turn.specs.Jobs.{Distinct, held_after, AllMeet, Shifts}
use Rattle.hl_turn.specs.Asking.{MayAsk, IsReady}
use Rattle.hl_turn.specs.Views.{moved}
use Rattle.hl_turn.specs.Rule.{LockRule}
use Rattle.hl_turn.specs.Kinds.{draws, gives_back, Takes, counts_step}
use Rattle.hl_turn.specs.Calls.{IsStep, IsWork, IsReturned, MayCount}
use Rattle.hl_turn.proofs.SeatSteps.{gives_turn}
use Rattle.hl_turn.proofs.SeatRows.{some_same}

module _ {T E I C X : Type 0} (entries : T → List E) (legal_over : T → T → Type 0) (jobs_out : T → T → List (ℕ × C)) (meets : I → C → Type 0) (asks : ℕ → X → Type 0) (brings : X → Option ℕ) (returns : X → I → Type 0) where
  -- the seat that has taken the object may have it make the step
  pub ready_after : (event : X) (m0 m1 m2 : Me T (View T E I C)) (r : ℕ) → m0.1 ≡ [] → MayAsk asks brings returns m0.0.number m0.0.holds event → draws m0 r m1 → Takes entries legal_over jobs_out meets m1 m2
      → (x o : T) × (m2.1 ≡ (0, x) ∷ []) × IsReady legal_over jobs_out meets asks brings returns o x m2.0.number m2.0.holds event
  ready_after event m0 m1 m2 r empty may d t = (
    t.0,
    t.1,
    ap (λ (m : Me T (View T E I C)). m.1) t.2 ∙ ap (λ l. (0, t.0) ∷ l) (ap (λ (m : Me T (View T E I C)). m.1) d.0 ∙ empty),
    subst (λ (u : Me T (View T E I C)). IsReady legal_over jobs_out meets asks brings returns t.1 t.0 u.0.number u.0.holds event) (sym t.2) record {
      legal = t.4;
      may = subst (λ (u : Me T (View T E I C)). MayAsk asks brings returns u.0.number u.0.holds event) (sym d.0) may;
      met = t.6;
      apart = t.7;
      once = t.8;
    },
  )

module _ {T E I C X Y : Type 0} (entries : T → List E) (seat_of : E → ℕ) (legal_over : T → T → Type 0) (jobs_out : T → T → List (ℕ × C)) (meets : I → C → Type 0) (does : T → X → Y → T → Type 0) (brings : X → Option ℕ) (takes : X → Y → Option (ℕ × I)) where
  abbrev M : Type 0
  M = Me T (View T E I C)

  first_or : T → List (ℕ × T) → T
  first_or d [] = d
  first_or d (p ∷ ps) = p.1

  same_held : (m : M) (x y : T) (ps qs : List (ℕ × T)) → m.1 ≡ (0, x) ∷ ps → m.1 ≡ (0, y) ∷ qs → x ≡ y
  unfolding first_or
  same_held m x y ps qs p q = ap (first_or x) (sym p ∙ q)

  -- the object has made its step in the hand of the seat, which had the view v
  pub record After (opening : T) (v : View T E I C) (event : X) (answer : Y) (m : M) : Type 0 where
    pub before : T
    pub after : T
    pub own : List E
    pub turn : ℕ
    pub step : IsStep entries seat_of legal_over jobs_out meets does brings takes v.number v.holds before event answer after own
    pub begins : Begins v.seen (entries before)
    pub met : AllMeet meets (jobs_out opening before) v.holds
    pub apart : Distinct v.holds
    pub once : Distinct (jobs_out opening before)
    pub legal : legal_over opening before
    pub org : v.opening ≡ Some opening
    pub is : m ≡ (moved v (entries before) v.mine v.holds (jobs_out opening before) v.steps Served turn, (0, after) ∷ [])

  pub after_work : (opening : T) (event : X) (answer : Y) (m0 m1 m2 m3 : M) (r : ℕ) → m0.0.opening ≡ Some opening → draws m0 r m1 → Takes entries legal_over jobs_out meets m1 m2
      → IsWork entries seat_of legal_over jobs_out meets does brings takes m2.0.number m2 event answer m3 → After opening m0.0 event answer m3
  after_work opening event answer m0 m1 m2 m3 r org d t w =
      let x : T = w.0 in
      let same : t.0 ≡ x = same_held m2 t.0 x m1.1 [] (ap (λ (m : M). m.1) t.2) w.3 in
      let here : t.1 ≡ opening = some_same (sym t.3 ∙ (ap (λ (m : M). m.0.opening) d.0 ∙ org)) in
      let m2_is : m2.0 ≡ moved m0.0 (entries x) m0.0.mine m0.0.holds (jobs_out opening x) m0.0.steps Served m1.0.ticket =
      ap (λ (m : M). m.0) t.2 ∙ (ap (λ z. moved m1.0 (entries z) m1.0.mine m1.0.holds (jobs_out t.1 z) m1.0.steps Served m1.0.ticket) same
      ∙ (ap (λ o. moved m1.0 (entries x) m1.0.mine m1.0.holds (jobs_out o x) m1.0.steps Served m1.0.ticket) here
      ∙ ap (λ (m : M). moved m.0 (entries x) m.0.mine m.0.holds (jobs_out opening x) m.0.steps Served m1.0.ticket) d.0)) in record {
        before = x;
        after = w.1;
        own = w.2;
        turn = m1.0.ticket;
        step = subst (λ (u : View T E I C). IsStep entries seat_of legal_over jobs_out meets does brings takes u.number u.holds x event answer w.1 w.2) m2_is w.5;
        begins = subst (λ l. Begins l (entries x)) (ap (λ (m : M). m.0.seen) d.0) (subst (λ z. Begins m1.0.seen (entries z)) same t.5);
        met = subst (λ h. AllMeet meets (jobs_out opening x) h) (ap (λ (m : M). m.0.holds) d.0) (subst (λ o. AllMeet meets (jobs_out o x) m1.0.holds) here (subst (λ z. AllMeet meets (jobs_out t.1 z) m1.0.holds) same t.6));
        apart = subst (λ (h : List (ℕ × I)). Distinct h) (ap (λ (m : M). m.0.holds) d.0) t.7;
        once = subst (λ o. Distinct (jobs_out o x)) here (subst (λ z. Distinct (jobs_out t.1 z)) same t.8);
        legal = subst (λ o. legal_over o x) here (subst (λ z. legal_over t.1 z) same t.4);
        org = org;
        is = w.4 ∙ ap (λ (u : View T E I C). (u, (0, w.1) ∷ [])) m2_is;
      }

  pub may_count : (opening : T) (v : View T E I C) (event : X) (answer : Y) (m : M) → After opening v event answer m → MayCount entries seat_of jobs_out meets (held_after brings takes m.0.holds event answer) m
  may_count opening v event answer m a = (
    a.after,
    opening,
    a.own,
    ap (λ (u : M). u.0.stage) a.is,
    ap (λ (u : M). u.1) a.is,
    a.step.grows ∙ ap (λ l. l ++ a.own) (sym (ap (λ (u : M). u.0.seen) a.is)),
    subst (λ n. IsOwn seat_of n a.own) (sym (ap (λ (u : M). u.0.number) a.is)) a.step.owned,
    subst (λ (u : M). Shifts meets u.0.holds u.0.outs (held_after brings takes u.0.holds event answer) (jobs_out opening a.after)) (sym a.is) (a.step.jobs opening a.legal a.met a.apart a.once).1,
    ap (λ (u : M). u.0.opening) a.is ∙ a.org,
  )

  pub record Counted_it (opening : T) (v : View T E I C) (event : X) (answer : Y) (m : M) : Type 0 where
    pub before : T
    pub after : T
    pub own : List E
    pub turn : ℕ
    pub step : IsStep entries seat_of legal_over jobs_out meets does brings takes v.number v.holds before event answer after own
    pub begins : Begins v.seen (entries before)
    pub met : AllMeet meets (jobs_out opening before) v.holds
    pub apart : Distinct v.holds
    pub once : Distinct (jobs_out opening before)
    pub legal : legal_over opening before
    pub org : v.opening ≡ Some opening
    pub is : m ≡ (moved v (entries after) (v.mine ++ own) (held_after brings takes v.holds event answer) (jobs_out opening after) m.0.steps Counted turn, (0, after) ∷ [])
    pub more : v.steps < m.0.steps

  pub after_count : (opening : T) (v : View T E I C) (event : X) (answer : Y) (m m' : M) → After opening v event answer m → counts_step entries jobs_out (held_after brings takes m.0.holds event answer) m m' → Counted_it opening v event answer m'
  after_count opening v event answer m m' a k =
      let held : m.1 ≡ (0, a.after) ∷ [] = ap (λ (u : M). u.1) a.is in
      let same : k.0 ≡ a.after = same_held m k.0 a.after [] [] k.3 held in
      let here : k.1 ≡ opening = some_same (sym k.7 ∙ (ap (λ (u : M). u.0.opening) a.is ∙ a.org)) in
      let seen : m.0.seen ≡ entries a.before = ap (λ (u : M). u.0.seen) a.is in
      let added : k.2 ≡ a.own = append_cancel_left (entries a.before) k.2 a.own (ap (λ l. l ++ k.2) (sym seen) ∙ (sym k.4 ∙ (ap entries same ∙ a.step.grows))) in
      let less : v.steps < m'.0.steps = subst (λ n. n < m'.0.steps) (ap (λ (u : M). u.0.steps) a.is) k.6 in record {
        before = a.before;
        after = a.after;
        own = a.own;
        turn = a.turn;
        step = a.step;
        begins = a.begins;
        met = a.met;
        apart = a.apart;
        once = a.once;
        legal = a.legal;
        org = a.org;
        is = k.5 ∙ (ap (λ z. (moved m.0 (entries z) (m.0.mine ++ k.2) (held_after brings takes m.0.holds event answer) (jobs_out k.1 z) m'.0.steps Counted m.0.ticket, m.1)) same
            ∙ (ap (λ o. (moved m.0 (entries a.after) (m.0.mine ++ k.2) (held_after brings takes m.0.holds event answer) (jobs_out o a.after) m'.0.steps Counted m.0.ticket, m.1)) here
            ∙ (ap (λ l. (moved m.0 (entries a.after) (m.0.mine ++ l) (held_after brings takes m.0.holds event answer) (jobs_out opening a.after) m'.0.steps Counted m.0.ticket, m.1)) added
            ∙ ap (λ (u : M). (moved u.0 (entries a.after) (u.0.mine ++ a.own) (held_after brings takes u.0.holds event answer) (jobs_out opening a.after) m'.0.steps Counted u.0.ticket, u.1)) a.is)));
        more = less;
      }

  pub may_give : (opening : T) (limit slots id : ℕ) (v : View T E I C) (event : X) (answer : Y) (m : M) → 0 < slots → Counted_it opening v event answer m
      → Allows (LockRule entries seat_of legal_over jobs_out meets opening limit) slots id m 1 (λ n. (n + 1) % 2 ^ 64) (λ r n. gives_back m n)
  may_give opening limit slots id v event answer m some_slot a = gives_turn entries seat_of legal_over jobs_out meets opening limit slots id m a.after some_slot (ap (λ (u : M). u.0.stage) a.is) (ap (λ (u : M). u.1) a.is)
      (sym (ap (λ (u : M). u.0.seen) a.is)) (a.step.jobs opening a.legal a.met a.apart a.once).0 (sym (ap (λ (u : M). u.0.outs) a.is))

  pub after_give : (opening : T) (v : View T E I C) (event : X) (answer : Y) (m m' : M) → Counted_it opening v event answer m → gives_back m m'
      → IsReturned entries seat_of legal_over jobs_out meets does brings takes opening v event answer m'.0
  after_give opening v event answer m m' a g =
      let w : View T E I C = moved v (entries a.after) (v.mine ++ a.own) (held_after brings takes v.holds event answer) (jobs_out opening a.after) m.0.steps Idle a.turn in
      let is : m'.0 ≡ w = ap (λ (u : M). u.0) g ∙ ap (λ (u : M). moved u.0 u.0.seen u.0.mine u.0.holds u.0.outs u.0.steps Idle u.0.ticket) a.is in
      let after = a.step.jobs opening a.legal a.met a.apart a.once in
      subst (λ (u : View T E I C). IsReturned entries seat_of legal_over jobs_out meets does brings takes opening v event answer u) (sym is) record {
        answered = record {
          found = a.before;
          left = a.after;
          own = a.own;
          made = a.step.made;
          was_legal = a.legal;
          is_legal = after.0;
          begins = a.begins;
          grows = a.step.grows;
          owned = a.step.owned;
          seen = refl;
          mine = refl;
          met = a.met;
          once = a.once;
          jobs = after.1;
        };
        holds = refl;
        counted = a.more;
        same_number = refl;
        same_opening = refl;
        idle = refl;
      }

  pub empty_hand : (opening : T) (v : View T E I C) (event : X) (answer : Y) (m m' : M) → Counted_it opening v event answer m → gives_back m m' → m'.1 ≡ []
  empty_hand opening v event answer m m' a g = ap (λ (u : M). u.1) g ∙ ap (λ (u : M). rest u.1) a.is
