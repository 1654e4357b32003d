-- A row of seats, each of which changes by itself.
use Rattle.std.proofs.Common.{◌≡◌, ℕ, zero, suc, ◌<◌, Some, List, [], ◌∷◌, length, get_or, slice_get, sym, ◌∙◌, subst}
use mathlib.Core.Option.{some, some-injective, some-ne-none}
use lib.ListN.{get_elem?}
use Rattle.hl_turn.specs.Lock.{Lock, Seated, IsSeatOf}
use Rattle.hl_turn.proofs.Lists.{at_below}
use Rattle.hl_turn.proofs.SeatRows.{there, at_get, get_at}
use Rattle.hl_trial_turn.specs.Free.{AreFree, IsSame}

module _ {A : Type 0} where
  or_at : (l : List A) (k : ℕ) (d a : A) → get_elem? l k ≡ some a → get_or l k d ≡ a
  or_at [] k d a e = absurd (some-ne-none a (sym e))
  or_at (x ∷ xs) zero d a e = some-injective x a e
  or_at (x ∷ xs) (suc k) d a e = or_at xs k d a e

  -- what holds of each element, and of each pair of one before and after, holds of each after
  each_after : (P Q : ℕ → A → Type 0) (S : A → A → Type 0) (xs ys : List A) → length ys ≡ length xs → ((k : ℕ) (t : A) → slice_get xs k ≡ Some t → P k t) → ((k : ℕ) (d : A) → k < length xs → S (get_or xs k d) (get_or ys k d))
      → ((k : ℕ) (x y : A) → P k x → S x y → Q k y) → (k : ℕ) (t : A) → slice_get ys k ≡ Some t → Q k t
  each_after P Q S xs ys long before step then k t e = let at = at_get ys k t e in let near : k < length xs = subst (λ n. k < n) long (at_below ys k t at) in let x = there xs k near in
      then k x.0 t (before k x.0 (get_at xs k x.0 x.1)) (subst (λ (z : A). S z t) (or_at xs k x.0 x.0 x.1) (subst (λ (z : A). S (get_or xs k x.0) z) (or_at ys k x.0 t at) (step k x.0 near)))

module _ {T E I C : Type 0} where
  -- seats that were free are free, where each is the lock's still, with its number and what it held
  pub free_after : (lock : Lock T) (xs ys : List (Seated T E I C)) → length ys ≡ length xs → AreFree lock xs → ((k : ℕ) (d : Seated T E I C) → k < length xs → IsSame (get_or xs k d) (get_or ys k d)) → AreFree lock ys
  free_after lock xs ys long before step = each_after (λ k s. IsSeatOf lock s × (s.view.number ≡ k) × (s.view.holds ≡ [])) (λ k s. IsSeatOf lock s × (s.view.number ≡ k) × (s.view.holds ≡ [])) IsSame xs ys long before step
      (λ k x y p s. (record { table = s.table ∙ p.0.table; opening = s.opening ∙ p.0.opening }, s.number ∙ p.1, s.holds ∙ p.2))
