-- Rows of seats. A is what stands in a row.
use Rattle.std.proofs.Common.{◌≡◌, ⊎_elim, inl, inr, ℕ, zero, suc, ◌+◌, ◌<◌, Option, Some, None, List, [], ◌∷◌, ◌++◌, length, slice_get, refl, sym, ap, ◌∙◌, subst, arith}
use mathlib.Core.Option.{some, some-injective, some-ne-none}
use lib.ListN.{get_elem?}
use Rattle.atomic_table.proofs.Lists.{at_longer}
use Rattle.hl_turn.specs.declared.view.View.{View}
use Rattle.hl_turn.specs.Entries.{by_seat}
use Rattle.hl_turn.specs.Views.{both, IsKept, Covers}
use Rattle.hl_turn.specs.Lock.{Seated}
use Rattle.hl_turn.proofs.Lists.{at_end, at_middle}

module _ {A : Type 0} where
  or_else : A → Option A → A
  or_else d None = d
  or_else d (Some x) = x

  pub some_same : {x y : A} → Some x ≡ Some y → x ≡ y
  unfolding or_else
  some_same {x} {y} e = ap (or_else x) e

  IsSomething : Option A → Type 0
  IsSomething None = ⊥
  IsSomething (Some x) = Unit {0}

  none_some : {x : A} → None ≡ Some x → ⊥
  unfolding IsSomething
  none_some e = subst IsSomething (sym e) tt

  -- an element by the one look-up, and by the other
  pub at_get : (l : List A) (k : ℕ) (a : A) → slice_get l k ≡ Some a → get_elem? l k ≡ some a
  at_get [] k a e = absurd (none_some e)
  at_get (x ∷ xs) zero a e = ap some (some_same e)
  at_get (x ∷ xs) (suc k) a e = at_get xs k a e

  pub get_at : (l : List A) (k : ℕ) (a : A) → get_elem? l k ≡ some a → slice_get l k ≡ Some a
  get_at [] k a e = absurd (some-ne-none a (sym e))
  get_at (x ∷ xs) zero a e = ap Some (some-injective x a e)
  get_at (x ∷ xs) (suc k) a e = get_at xs k a e

  pub there : (l : List A) (j : ℕ) → j < length l → (a : A) × (get_elem? l j ≡ some a)
  there [] j h = absurd (omega arith)
  there (x ∷ xs) zero h = (x, refl)
  there (x ∷ xs) (suc j) h = there xs j (omega arith)

  pub next_dealt : (P : ℕ → A → Type 0) (l : List A) (x : A) (n : ℕ) → length l + 1 ≡ n → ((k : ℕ) (t : A) → get_elem? l k ≡ some t → P (k + 1) t) → P n x
      → (k : ℕ) (t : A) → get_elem? (l ++ x ∷ []) k ≡ some t → P (k + 1) t
  next_dealt P l x n long all last k t e = ⊎_elim (all k t) (λ (h : (k ≡ length l) × (x ≡ t)). let same : n ≡ k + 1 = omega (arith, long, h.0) in subst (λ (y : ℕ × A). P y.0 y.1) (λ i. (same i, h.1 i)) last) (at_end l x t k e)

  pub with_first : (P : ℕ → A → Type 0) (l : List A) (x : A) → P 0 x → ((k : ℕ) (t : A) → get_elem? l k ≡ some t → P (k + 1) t) → (k : ℕ) (t : A) → get_elem? (x ∷ l) k ≡ some t → P k t
  with_first P l x first all zero t e = subst (P 0) (some-injective x t e) first
  with_first P l x first all (suc k) t e = let same : k + 1 ≡ suc k = omega arith in subst (λ n. P n t) same (all k t e)

-- A row of seats is taken in one by one: the view v of the first keeps what the others have done.
module _ {T E I C : Type 0} where
  pub first_kept : (x : Seated T E I C) → (j : ℕ) (t : Seated T E I C) → get_elem? (x ∷ []) j ≡ some t → IsKept t.view.number t.view.mine x.view
  first_kept x zero t e = subst (λ (u : Seated T E I C). IsKept u.view.number u.view.mine x.view) (some-injective x t e) (inl (refl, refl))
  first_kept x (suc j) t e = absurd (some-ne-none t (sym e))

  pub more_kept : (more : List (Seated T E I C)) (x : Seated T E I C) (v : View T E I C) → ((j : ℕ) (t : Seated T E I C) → get_elem? more j ≡ some t → IsKept t.view.number t.view.mine v)
      → (j : ℕ) (t : Seated T E I C) → get_elem? (x ∷ more) j ≡ some t → IsKept t.view.number t.view.mine (both v x.view)
  more_kept more x v all zero t e = subst (λ (u : Seated T E I C). IsKept u.view.number u.view.mine (both v x.view)) (some-injective x t e)
      (inr (length v.ended, at_middle v.ended x.view.ended (x.view.number, x.view.mine)))
  more_kept more x v all (suc j) t e = ⊎_elim (λ h. inl h)
      (λ (h : (i : ℕ) × (get_elem? v.ended i ≡ some (t.view.number, t.view.mine))). inr (h.0, at_longer v.ended ((x.view.number, x.view.mine) ∷ x.view.ended) h.0 (t.view.number, t.view.mine) h.1)) (all j t e)

  pub all_covered : (items : List (Seated T E I C)) (limit : ℕ) (v : View T E I C) → length items ≡ limit → ((k : ℕ) (t : Seated T E I C) → get_elem? items k ≡ some t → t.view.number ≡ k)
      → ((k : ℕ) (t : Seated T E I C) → get_elem? items k ≡ some t → IsKept t.view.number t.view.mine v) → Covers limit v
  all_covered items limit v long named kept j near = let t = there items j (omega (arith, long, near)) in let here : t.0.view.number ≡ j = named j t.0 t.1 in
      ⊎_elim (λ h. inl (sym here ∙ sym h.0)) (λ (h : (i : ℕ) × (get_elem? v.ended i ≡ some (t.0.view.number, t.0.view.mine))). inr (h.0, t.0.view.mine, h.1 ∙ ap (λ n. some (n, t.0.view.mine)) here)) (kept j t.0 t.1)

  pub each_mine : (entries : List E) (seat_of : E → ℕ) (v : View T E I C) (k : ℕ) (t : Seated T E I C) → t.view.number ≡ k → IsKept t.view.number t.view.mine v → by_seat seat_of v.number entries ≡ v.mine
      → ((i n : ℕ) (m : List E) → get_elem? v.ended i ≡ some (n, m) → by_seat seat_of n entries ≡ m) → by_seat seat_of k entries ≡ t.view.mine
  each_mine entries seat_of v k t here kept own others = subst (λ n. by_seat seat_of n entries ≡ t.view.mine) here
      (⊎_elim (λ h. ap (λ n. by_seat seat_of n entries) (sym h.0) ∙ (own ∙ h.1)) (λ (h : (i : ℕ) × (get_elem? v.ended i ≡ some (t.view.number, t.view.mine))). others h.0 t.view.number t.view.mine h.1) kept)
