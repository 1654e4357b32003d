-- Lists in which one element is set.
use Rattle.std.proofs.Common.{arith, ◌≡◌, ◌≢◌, ℕ, zero, suc, ◌<◌, ◌⊎◌, Bool, true, false, ◌&&◌, not, List, [], ◌∷◌, length, get_or, set, get_or-set_other, length-set, refl, ap, ◌∙◌, sym, subst, inl, inr, T}
use Rattle.std.proofs.lemmas.Bool.{cases_lt}
use Rattle.std.proofs.lemmas.List.{get_or-set_same, get_or_past}

pub left_true : (a b : Bool) → (a && b) ≡ true → a ≡ true
left_true true b e = refl
left_true false b e = e

pub right_true : (a b : Bool) → (a && b) ≡ true → b ≡ true
right_true true b e = e
right_true false b e = absurd (subst T (sym e) tt)

pub turned : (b : Bool) → not b ≡ true → b ≡ false
turned true e = sym e
turned false e = refl

pub true_false : {P : Type 0} (b : Bool) → b ≡ true → b ≡ false → P
true_false true e f = absurd (subst T f tt)
true_false false e f = absurd (subst T (sym e) tt)

-- what is set stands at its index, or nothing changed there
pub set_either : {A : Type 0} (xs : List A) (i : ℕ) (x d : A) (j : ℕ) → ((j ≡ i) × (get_or (set xs i x) j d ≡ x)) ⊎ (get_or (set xs i x) j d ≡ get_or xs j d)
set_either xs i x d j = elim (cases_lt j i) as (λ _. ((j ≡ i) × (get_or (set xs i x) j d ≡ x)) ⊎ (get_or (set xs i x) j d ≡ get_or xs j d)) [
  | inl h ↦ inr (get_or-set_other xs i j x d (λ e. omega arith))
  | inr h ↦ elim (cases_lt i j) as (λ _. ((j ≡ i) × (get_or (set xs i x) j d ≡ x)) ⊎ (get_or (set xs i x) j d ≡ get_or xs j d)) [
    | inl g ↦ inr (get_or-set_other xs i j x d (λ e. omega arith))
    | inr g ↦ let e : j ≡ i = omega arith in elim (cases_lt j (length xs)) as (λ _. ((j ≡ i) × (get_or (set xs i x) j d ≡ x)) ⊎ (get_or (set xs i x) j d ≡ get_or xs j d)) [
      | inl short ↦ inl (e, ap (λ n. get_or (set xs i x) n d) e ∙ get_or-set_same xs i x d (omega arith))
      | inr long ↦ inr (get_or_past (set xs i x) j d (let f = length-set xs i x in omega arith) ∙ sym (get_or_past xs j d long))
    ]
  ]
]

pub set_within : {A : Type 0} (xs : List A) (i : ℕ) (x d : A) (j : ℕ) → i < length xs → ((j ≡ i) × (get_or (set xs i x) j d ≡ x)) ⊎ ((j ≢ i) × (get_or (set xs i x) j d ≡ get_or xs j d))
set_within xs i x d j short = elim (cases_lt j i) as (λ _. ((j ≡ i) × (get_or (set xs i x) j d ≡ x)) ⊎ ((j ≢ i) × (get_or (set xs i x) j d ≡ get_or xs j d))) [
  | inl h ↦ let other : j ≢ i = omega arith in inr (other, get_or-set_other xs i j x d other)
  | inr h ↦ elim (cases_lt i j) as (λ _. ((j ≡ i) × (get_or (set xs i x) j d ≡ x)) ⊎ ((j ≢ i) × (get_or (set xs i x) j d ≡ get_or xs j d))) [
    | inl g ↦ let other : j ≢ i = omega arith in inr (other, get_or-set_other xs i j x d other)
    | inr g ↦ let e : j ≡ i = omega arith in inl (e, ap (λ n. get_or (set xs i x) n d) e ∙ get_or-set_same xs i x d short)
  ]
]

-- where an element is set, both cases
pub at_set : {A P : Type 0} (xs : List A) (i : ℕ) (x d : A) (j : ℕ) → i < length xs
    → (j ≡ i → get_or (set xs i x) j d ≡ x → P) → (j ≢ i → get_or (set xs i x) j d ≡ get_or xs j d → P) → P
at_set {A = A} {P = P} xs i x d j short here there = elim (set_within xs i x d j short) as (λ _. P) [ inl h ↦ here h.0 h.1 | inr h ↦ there h.0 h.1 ]

-- what doesn't tell the new element from the old tells nothing
pub set_alike : {A B : Type 0} (f : A → B) (xs : List A) (i : ℕ) (x d : A) → f x ≡ f (get_or xs i d) → (j : ℕ) → f (get_or (set xs i x) j d) ≡ f (get_or xs j d)
set_alike f xs i x d same j = elim (set_either xs i x d j) as (λ _. f (get_or (set xs i x) j d) ≡ f (get_or xs j d)) [
  | inl h ↦ ap f h.1 ∙ same ∙ sym (ap (λ n. f (get_or xs n d)) h.0)
  | inr h ↦ ap f h
]

pub set-set : {A : Type 0} (xs : List A) (i : ℕ) (x y : A) → set (set xs i x) i y ≡ set xs i y
set-set [] i x y = refl
set-set (z ∷ xs) zero x y = refl
set-set (z ∷ xs) (suc i) x y = ap (λ rest. z ∷ rest) (set-set xs i x y)

-- an element that isn't the default is there
pub is_there : {A B : Type 0} (f : A → B) (xs : List A) (i : ℕ) (d : A) → ((f (get_or xs i d) ≡ f d) → ⊥) → i < length xs
is_there f xs i d differs = elim (cases_lt i (length xs)) as (λ _. i < length xs) [
  | inl h ↦ h
  | inr h ↦ absurd (differs (ap f (get_or_past xs i d h)))
]
