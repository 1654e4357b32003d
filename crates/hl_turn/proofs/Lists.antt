-- Lists of entries, and lists read by `get_elem?`.
use Rattle.std.proofs.Common.{◌≡◌, ◌≢◌, ◌⊎◌, ⊎_elim, inl, inr, ℕ, zero, suc, ◌+◌, ◌<◌, ◌≤◌, ◌==◌, true, false, cond, ltb, eq-eqb, ne_eqb, List, [], ◌∷◌, ◌++◌, length, set, sum_by, refl, sym, ap, ◌∙◌, subst, arith, append_assoc}
use Rattle.std.proofs.lemmas.List.{append-nil}
use Rattle.std.proofs.lemmas.List.Elements.{filter-append}
use Rattle.std.proofs.lemmas.List.Sums.{sum_by-cons}
use mathlib.Core.Option.{some, some-injective, some-ne-none}
use lib.ListN.{get_elem?}
use Rattle.hl_turn.specs.Entries.{IsOwn, Begins, by_seat, longer}

module _ {A : Type 0} where
  pub at_below : (l : List A) (i : ℕ) (a : A) → get_elem? l i ≡ some a → i < length l
  at_below [] i a e = absurd (some-ne-none a (sym e))
  at_below (x ∷ xs) zero a e = omega arith
  at_below (x ∷ xs) (suc i) a e = let h = at_below xs i a e in omega arith

  pub at_one : (l : List A) (i : ℕ) (a b : A) → get_elem? l i ≡ some a → get_elem? l i ≡ some b → a ≡ b
  at_one l i a b p q = some-injective a b (sym p ∙ q)

  pub at_end : (l : List A) (a b : A) (j : ℕ) → get_elem? (l ++ a ∷ []) j ≡ some b → (get_elem? l j ≡ some b) ⊎ ((j ≡ length l) × (a ≡ b))
  at_end [] a b zero e = inr (refl, some-injective a b e)
  at_end [] a b (suc j) e = absurd (some-ne-none b (sym e))
  at_end (x ∷ xs) a b zero e = inl e
  at_end (x ∷ xs) a b (suc j) e = ⊎_elim inl (λ t. inr (ap suc t.0, t.1)) (at_end xs a b j e)

  -- an element of two lists, one behind the other
  pub at_both : (l m : List A) (k : ℕ) (a : A) → get_elem? (l ++ m) k ≡ some a → (get_elem? l k ≡ some a) ⊎ ((i : ℕ) × (get_elem? m i ≡ some a))
  at_both [] m k a e = inr (k, e)
  at_both (x ∷ xs) m zero a e = inl e
  at_both (x ∷ xs) m (suc k) a e = at_both xs m k a e

  pub at_middle : (l m : List A) (a : A) → get_elem? (l ++ a ∷ m) (length l) ≡ some a
  at_middle [] m a = refl
  at_middle (x ∷ xs) m a = at_middle xs m a

  first_or : A → List (ℕ × A) → A
  first_or d [] = d
  first_or d (p ∷ ps) = p.1

  -- two ways to say what the first slot in hand holds
  pub same_held : (l : List (ℕ × A)) (x y : A) (ps qs : List (ℕ × A)) → l ≡ (0, x) ∷ ps → l ≡ (0, y) ∷ qs → x ≡ y
  unfolding first_or
  same_held l x y ps qs p q = ap (first_or x) (sym p ∙ q)

  pub sum_set : (f : A → ℕ) (l : List A) (i : ℕ) (a b : A) → get_elem? l i ≡ some a → sum_by f (set l i b) + f a ≡ sum_by f l + f b
  sum_set f [] i a b e = absurd (some-ne-none a (sym e))
  sum_set f (x ∷ xs) zero a b e = let h : f x ≡ f a = ap f (some-injective x a e) in let p = sum_by-cons f b xs in let q = sum_by-cons f x xs in omega arith
  sum_set f (x ∷ xs) (suc i) a b e = let h = sum_set f xs i a b e in let p = sum_by-cons f x (set xs i b) in let q = sum_by-cons f x xs in omega arith

  pub sum_below : (f : A → ℕ) → ((a : A) → f a ≤ 1) → (l : List A) → sum_by f l ≤ length l
  sum_below f h [] = omega arith
  sum_below f h (x ∷ xs) = let k = sum_below f h xs in let one = h x in let p = sum_by-cons f x xs in omega arith

module _ {E : Type 0} (seat_of : E → ℕ) where
  pub by_seat-append : (n : ℕ) (xs ys : List E) → by_seat seat_of n (xs ++ ys) ≡ by_seat seat_of n xs ++ by_seat seat_of n ys
  by_seat-append n xs ys = filter-append (λ e. seat_of e == n) xs ys

  pub own_here : (n : ℕ) (own : List E) → IsOwn seat_of n own → by_seat seat_of n own ≡ own
  own_here n own is = ⊎_elim (λ (t : own ≡ []). subst (λ l. by_seat seat_of n l ≡ l) (sym t) refl)
      (λ (t : (e : E) × (own ≡ e ∷ []) × (seat_of e ≡ n)). subst (λ l. by_seat seat_of n l ≡ l) (sym t.1) (ap (λ b. cond b (t.0 ∷ []) []) (eq-eqb (seat_of t.0) n t.2))) is

  pub own_else : (n k : ℕ) (own : List E) → IsOwn seat_of n own → k ≢ n → by_seat seat_of k own ≡ []
  own_else n k own is other = ⊎_elim (λ (t : own ≡ []). subst (λ l. by_seat seat_of k l ≡ []) (sym t) refl)
      (λ (t : (e : E) × (own ≡ e ∷ []) × (seat_of e ≡ n)). subst (λ l. by_seat seat_of k l ≡ []) (sym t.1) (ap (λ b. cond b (t.0 ∷ []) []) (ne_eqb (seat_of t.0) k (λ e. other (sym e ∙ t.2))))) is

module _ {E : Type 0} where
  pub begins_all : (xs : List E) → Begins xs xs
  begins_all xs = ([], append-nil xs)

  pub begins_more : (xs ys zs : List E) → Begins xs ys → Begins ys zs → Begins xs zs
  begins_more xs ys zs p q = (p.0 ++ q.0, sym (append_assoc xs p.0 q.0) ∙ (ap (λ l. l ++ q.0) p.1 ∙ q.1))

  pub begins_longer : (xs ys zs : List E) → Begins xs zs → Begins ys zs → Begins (longer xs ys) zs
  begins_longer xs ys zs p q = elim (ltb (length xs) (length ys)) as (λ b. Begins (cond b ys xs) zs) [ true ↦ q | false ↦ p ]
