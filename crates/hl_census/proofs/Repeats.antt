-- How often a number stands in a list, and in one that doesn't fall.
use Rattle.std.proofs.Common.{◌≡◌, ◌≢◌, inl, inr, ℕ, zero, suc, ◌+◌, ◌-◌, ◌<◌, ◌≤◌, Bool, cond, List, [], ◌∷◌, length, get_or, refl, sym, ◌∙◌, ap, subst, arith}
use Rattle.std.specs.Prelude.{◌==◌, Contains, IsPermutation, Option, Some, None}
use Rattle.std.specs.List.Sorted.{IsNonDecreasing}
use Rattle.std.proofs.lemmas.Bool.{cases_eq, eq-eqb, ne_eqb}
use Rattle.std.proofs.lemmas.List.Sorted.{sum_by-IsPermutation}
use Rattle.std.proofs.lemmas.List.Sums.{sum_by-cons}
use Rattle.hl_nodes.proofs.Membership.{first_or_later}
use Rattle.hl_census.specs.Sharing.{TellsTwice, times}

abbrev one_if : Bool → ℕ
one_if b = cond b 1 0

times-cons : (a x : ℕ) (xs : List ℕ) → times a (x ∷ xs) ≡ one_if (x == a) + times a xs
times-cons a x xs = sum_by-cons (λ (y : ℕ). one_if (y == a)) x xs

pub times-same : (a x : ℕ) (xs : List ℕ) → x ≡ a → times a (x ∷ xs) ≡ 1 + times a xs
times-same a x xs e = times-cons a x xs ∙ ap (λ (b : Bool). one_if b + times a xs) (eq-eqb x a e)

pub times-other : (a x : ℕ) (xs : List ℕ) → (x ≡ a → ⊥) → times a (x ∷ xs) ≡ 0 + times a xs
times-other a x xs ne = times-cons a x xs ∙ ap (λ (b : Bool). one_if b + times a xs) (ne_eqb x a ne)

pub times-more : (a x : ℕ) (xs : List ℕ) → times a xs ≤ times a (x ∷ xs)
times-more a x xs = elim (cases_eq x a) [
  | inl e ↦ (let is = times-same a x xs e in omega arith)
  | inr ne ↦ (let is = times-other a x xs ne in omega arith)
]

pub times-none : (a : ℕ) (xs : List ℕ) → (Contains xs a → ⊥) → times a xs ≡ 0
times-none a [] none = refl
times-none a (x ∷ xs) none = times-other a x xs (λ e. none (0, omega arith, e)) ∙ (let rest = times-none a xs (λ c. (let lt = c.1 in none (suc c.0, omega arith, c.2))) in omega arith)

-- NUMBERS THAT RISE
abbrev Above : ℕ → List ℕ → Type 0
Above x [] = Unit {0}
Above x (y ∷ ys) = (x < y) × Above y ys

above_none : (x y : ℕ) (xs : List ℕ) → Above x xs → y ≤ x → Contains xs y → ⊥
above_none x y [] above le c = (let lt = c.1 in omega arith)
above_none x y (z ∷ zs) above le c =
    let lt : x < z = above.0 in
    elim (first_or_later z y zs c) [
      | inl e ↦ omega arith
      | inr more ↦ above_none z y zs above.1 (omega arith) more
    ]

above_once : (a x : ℕ) (xs : List ℕ) → Above x xs → times a (x ∷ xs) ≤ 1
above_once a x [] above = elim (cases_eq x a) [
  | inl e ↦ (let is = times-same a x [] e in let none = times-none a [] (λ c. (let lt = c.1 in omega arith)) in omega arith)
  | inr ne ↦ (let is = times-other a x [] ne in let none = times-none a [] (λ c. (let lt = c.1 in omega arith)) in omega arith)
]
above_once a x (y ∷ ys) above = elim (cases_eq x a) [
  | inl e ↦ (let is = times-same a x (y ∷ ys) e in let none = times-none a (y ∷ ys) (above_none x a (y ∷ ys) above (omega arith)) in omega arith)
  | inr ne ↦ (let is = times-other a x (y ∷ ys) ne in let rest = above_once a y ys above.1 in omega arith)
]

above_from : (x : ℕ) (xs : List ℕ) → ((i : ℕ) → suc i < length (x ∷ xs) → get_or (x ∷ xs) i 0 < get_or (x ∷ xs) (suc i) 0) → Above x xs
above_from x [] rises = tt
above_from x (y ∷ ys) rises = (rises 0 (omega arith), above_from y ys (λ i lt. rises (suc i) (omega arith)))

rising_once : (xs : List ℕ) → ((i : ℕ) → suc i < length xs → get_or xs i 0 < get_or xs (suc i) 0) → (a : ℕ) → times a xs ≤ 1
rising_once [] rises a = (let none = times-none a [] (λ c. (let lt = c.1 in omega arith)) in omega arith)
rising_once (x ∷ xs) rises a = above_once a x xs (above_from x xs rises)

-- NUMBERS THAT DON'T FALL, of which no two neighbours are the same
pub apart_once : (xs : List ℕ) → IsNonDecreasing xs → ((j : ℕ) → j + 1 < length xs → get_or xs j 0 ≢ get_or xs (j + 1) 0) → (a : ℕ) → times a xs ≤ 1
apart_once xs up apart = rising_once xs (λ i lt.
    let next : i + 1 ≡ suc i = omega arith in
    let le : get_or xs i 0 ≤ get_or xs (suc i) 0 = up i (suc i) 0 (omega arith) lt in
    let ne : get_or xs i 0 ≢ get_or xs (suc i) 0 = subst (λ (j : ℕ). get_or xs i 0 ≢ get_or xs j 0) next (apart i (omega arith)) in
    omega arith)

-- two neighbours that are the same
same_suc : (xs : List ℕ) (i : ℕ) → suc i < length xs → get_or xs i 0 ≡ get_or xs (suc i) 0 → 2 ≤ times (get_or xs (suc i) 0) xs
same_suc [] i lt e = absurd (omega arith)
same_suc (x ∷ []) i lt e = absurd (omega arith)
same_suc (x ∷ y ∷ xs) zero lt e =
    let first = times-same y x (y ∷ xs) e in
    let second = times-same y y xs refl in
    omega arith
same_suc (x ∷ y ∷ xs) (suc i) lt e =
    let more = times-more (get_or (y ∷ xs) (suc i) 0) x (y ∷ xs) in
    let rest = same_suc (y ∷ xs) i (omega arith) e in
    omega arith

pub same_twice : (xs : List ℕ) (i : ℕ) → 1 ≤ i → i < length xs → get_or xs (i - 1) 0 ≡ get_or xs i 0 → 2 ≤ times (get_or xs i 0) xs
same_twice xs i low lt e =
    let place : suc (i - 1) ≡ i = omega arith in
    subst (λ (k : ℕ). 2 ≤ times (get_or xs k 0) xs) place (same_suc xs (i - 1) (omega arith) (e ∙ ap (λ (k : ℕ). get_or xs k 0) (sym place)))

-- what is told of a list is so of one in another order
pub told_of_order : (xs ys : List ℕ) → IsPermutation xs ys → (told : Option ℕ) → TellsTwice ys told → TellsTwice xs told
told_of_order xs ys order None few = λ a. subst (λ (n : ℕ). n ≤ 1) (sum_by-IsPermutation (λ (y : ℕ). one_if (y == a)) xs ys order) (few a)
told_of_order xs ys order (Some a) two = subst (λ (n : ℕ). 2 ≤ n) (sum_by-IsPermutation (λ (y : ℕ). one_if (y == a)) xs ys order) two
