-- Claims that are decided: they hold, or they fail.
use Rattle.std.proofs.Common.{◌≡◌, ◌⊎◌, inl, inr, ⊎_elim, ℕ, zero, suc, ◌<◌, ◌≤◌, Bool, true, false, List, [], ◌∷◌, refl, subst, arith}
use Rattle.std.specs.List.{AllByRecursion}
use Rattle.std.specs.declared.cmp.Ordering.{Ordering}
use Rattle.std.specs.declared.cmp.Ordering.TheVariants.{Less, Equal, Greater}
use Rattle.std.proofs.lemmas.Bool.{cases_lt, cases_eq}

-- the claim holds or fails
abbrev pub Decided : Type 0 → Type 0
Decided P = P ⊎ (P → ⊥)

-- what can't fail holds
pub certain : {P : Type 0} → Decided P → ((P → ⊥) → ⊥) → P
certain (inl is) never = is
certain (inr fails) never = absurd (never fails)

pub both : {P Q : Type 0} → Decided P → Decided Q → Decided (P × Q)
both (inl p) (inl q) = inl (p, q)
both (inl p) (inr q) = inr (λ x. q x.1)
both (inr p) q = inr (λ x. p x.0)

pub one_of : {P Q : Type 0} → Decided P → Decided Q → Decided (P ⊎ Q)
one_of (inl p) q = inl (inl p)
one_of (inr p) (inl q) = inl (inr q)
one_of (inr p) (inr q) = inr (λ x. ⊎_elim {C = ⊥} p q x)

-- one claim where another holds
pub where_so : {P Q : Type 0} → Decided P → (P → Decided Q) → Decided (P → Q)
where_so {P} {Q} (inl p) q = by (q p)
  where
    by : Decided Q → Decided (P → Q)
    by (inl is) = inl (λ x. is)
    by (inr fails) = inr (λ f. fails (f p))
where_so (inr p) q = inl (λ x. absurd (p x))

pub denied : {P : Type 0} → Decided P → Decided (P → ⊥)
denied (inl p) = inr (λ never. never p)
denied (inr p) = inl p

-- a claim that holds exactly where another does
pub alike : {P Q : Type 0} → (P → Q) → (Q → P) → Decided P → Decided Q
alike to back (inl p) = inl (to p)
alike to back (inr never) = inr (λ q. never (back q))

pub is_equal : (m n : ℕ) → Decided (m ≡ n)
is_equal m n = cases_eq m n

pub is_below : (m n : ℕ) → Decided (m < n)
is_below m n = ⊎_elim (λ lt. inl lt) (λ ge. inr (λ lt. (let never : ⊥ = omega arith in never))) (cases_lt m n)

pub is_at_most : (m n : ℕ) → Decided (m ≤ n)
is_at_most m n = ⊎_elim (λ lt. inr (λ le. (let never : ⊥ = omega arith in never))) (λ ge. inl ge) (cases_lt n m)

pub is_true : (b : Bool) → Decided (b ≡ true)
is_true true = inl refl
is_true false = inr (λ e. (cc))

pub is_less : (o : Ordering) → Decided (o ≡ Less)
is_less Less = inl refl
is_less Equal = inr (λ e. (cc))
is_less Greater = inr (λ e. (cc))

-- two lists of numbers are one
pub same_bytes : (xs ys : List ℕ) → Decided (xs ≡ ys)
same_bytes [] [] = inl refl
same_bytes [] (y ∷ ys) = inr (λ e. (cc))
same_bytes (x ∷ xs) [] = inr (λ e. (cc))
same_bytes (x ∷ xs) (y ∷ ys) = alike {P = (x ≡ y) × (xs ≡ ys)} (λ e. (let f = e.0 in let g = e.1 in cc)) (λ e. ((cc), (cc))) (both (cases_eq x y) (same_bytes xs ys))

-- each item is one of which it is decided
pub each_of : {A : Type 0} (Q : A → Type 0) → ((x : A) → Decided (Q x)) → (xs : List A) → Decided (AllByRecursion Q xs)
each_of Q test [] = inl tt
each_of Q test (x ∷ xs) = both (test x) (each_of Q test xs)

module _ (P : ℕ → Type 0) where
  -- some number below a bound
  pub some_below : (n : ℕ) → ((i : ℕ) → i < n → Decided (P i)) → Decided ((i : ℕ) × (i < n) × P i)
  some_below zero test = inr (λ x. (let lt = x.1 in omega arith))
  some_below (suc n) test = by (some_below n (λ i lt. test i (omega arith))) (test n (omega arith))
    where
      by : Decided ((i : ℕ) × (i < n) × P i) → Decided (P n) → Decided ((i : ℕ) × (i < suc n) × P i)
      by (inl (i, lt, is)) last = inl (i, omega arith, is)
      by (inr none) (inl is) = inl (n, omega arith, is)
      by (inr none) (inr never) = inr (λ x. (let lt = x.1 in ⊎_elim {C = ⊥} (λ low. none (x.0, low, x.2)) (λ high. never (subst P (omega arith) x.2)) (cases_lt x.0 n)))

  -- each number below a bound
  pub all_below : (n : ℕ) → ((i : ℕ) → i < n → Decided (P i)) → Decided ((i : ℕ) → i < n → P i)
  all_below zero test = inl (λ i lt. absurd (omega arith))
  all_below (suc n) test = by (all_below n (λ i lt. test i (omega arith))) (test n (omega arith))
    where
      by : Decided ((i : ℕ) → i < n → P i) → Decided (P n) → Decided ((i : ℕ) → i < suc n → P i)
      by (inl all) (inl is) = inl (λ i lt. ⊎_elim (λ low. all i low) (λ high. (let e : n ≡ i = omega arith in subst P e is)) (cases_lt i n))
      by (inl all) (inr never) = inr (λ f. never (f n (omega arith)))
      by (inr fails) last = inr (λ f. fails (λ i lt. f i (omega arith)))
