-- Numbers of a list that stand at one place each.
use Rattle.std.proofs.Common.{◌≡◌, ◌⊎◌, inl, inr, ⊎_elim, ℕ, ◌+◌, ◌<◌, ◌≤◌, ◌||◌, Bool, true, false, List, length, refl, sym, ◌∙◌, subst, arith, nat_eq}
use Rattle.std.specs.Prelude.{Option, Some, None}
use Rattle.std.specs.List.{slice_index_or}
use Rattle.std.specs.BTreeSet.{BTreeSet, contains}
use Rattle.std.specs.Ordering.{nat_cmp}
use Rattle.std.proofs.lemmas.Bool.{cases_lt}
use Rattle.std.proofs.lemmas.Bool.Decides.{nat_tests}
use Rattle.std.proofs.lemmas.List.{get_or_past}
use Rattle.hl_staged.specs.Repeats.{AreOnce, IsRepeat, StandsAt}

-- an earlier place, or the last one
pub last_or_before : (i n : ℕ) → i < n + 1 → (i < n) ⊎ (i ≡ n)
last_or_before i n lt = ⊎_elim (λ low. inl low) (λ ge. inr (omega arith)) (cases_lt i n)

-- The numbers at the first places: the set has these, each stands at one of them.
pub record AreSeen (numbers : List (Option ℕ)) (n : ℕ) (seen : BTreeSet ℕ) : Type 0 where
  pub had : (number : ℕ) → contains nat_cmp seen number ≡ true → (place : ℕ) × (place < n) × StandsAt numbers number place
  pub has : (number place : ℕ) → place < n → StandsAt numbers number place → contains nat_cmp seen number ≡ true
  pub once : (number i j : ℕ) → i < n → j < n → StandsAt numbers number i → StandsAt numbers number j → i ≡ j

either : (a b : Bool) → a || b ≡ true → (a ≡ true) ⊎ (b ≡ true)
either true b e = inl refl
either false b e = inr e

right : (a b : Bool) → b ≡ true → a || b ≡ true
right true b e = refl
right false b e = e

module _ (numbers : List (Option ℕ)) (n : ℕ) (seen : BTreeSet ℕ) (are : AreSeen numbers n seen) where
  -- no number at the next place
  pub seen_none : slice_index_or numbers n None ≡ None → AreSeen numbers (n + 1) seen
  seen_none none = record {
    had = λ number e. (let at = are.had number e in (at.0, omega (arith, at.1), at.2));
    has = λ number place lt there. ⊎_elim (λ low. are.has number place low there) (λ e. absurd (never number place e there)) (last_or_before place n lt);
    once = λ number i j lt lt' one two. ⊎_elim
        (λ low. ⊎_elim (λ low'. are.once number i j low low' one two) (λ e. absurd (never number j e two)) (last_or_before j n lt'))
        (λ e. absurd (never number i e one)) (last_or_before i n lt);
  }
    where
      never : (number place : ℕ) → place ≡ n → StandsAt numbers number place → ⊥
      never number place e there = let at : slice_index_or numbers n None ≡ Some number = subst (StandsAt numbers number) e there in (cc)

  module _ (number : ℕ) (here : StandsAt numbers number n) where
    -- a new number at the next place
    pub seen_more : (after : BTreeSet ℕ) → contains nat_cmp seen number ≡ false → ((other : ℕ) → contains nat_cmp after other ≡ (nat_eq number other || contains nat_cmp seen other)) → AreSeen numbers (n + 1) after
    seen_more after fresh grown = record {
      had = λ other e. ⊎_elim
          (λ same. (n, omega arith, subst (λ (x : ℕ). StandsAt numbers x n) (grind (arith, nat_tests)) here))
          (λ old. (let at = are.had other old in (at.0, omega (arith, at.1), at.2)))
          (either (nat_eq number other) (contains nat_cmp seen other) (sym (grown other) ∙ e));
      has = λ other place lt there. ⊎_elim
          (λ low. grown other ∙ right (nat_eq number other) (contains nat_cmp seen other) (are.has other place low there))
          (λ e. (let same : number ≡ other = one other place e there in subst (λ (x : ℕ). contains nat_cmp after x ≡ true) same (grown number ∙ grind (arith, nat_tests))))
          (last_or_before place n lt);
      once = λ other i j lt lt' a b. ⊎_elim
          (λ low. ⊎_elim (λ low'. are.once other i j low low' a b) (λ e. absurd (never other i j low e a b)) (last_or_before j n lt'))
          (λ e. ⊎_elim (λ low'. absurd (never other j i low' e b a)) (λ e'. e ∙ sym e') (last_or_before j n lt')) (last_or_before i n lt);
    }
      where
        one : (other place : ℕ) → place ≡ n → StandsAt numbers other place → number ≡ other
        one other place e there = let at : slice_index_or numbers n None ≡ Some other = subst (StandsAt numbers other) e there in (cc)

        never : (other i j : ℕ) → i < n → j ≡ n → StandsAt numbers other i → StandsAt numbers other j → ⊥
        never other i j low e a b =
            let same : number ≡ other = one other j e b in
            let old : contains nat_cmp seen number ≡ true = are.has number i low (subst (λ (x : ℕ). StandsAt numbers x i) (sym same) a) in
            (cc)

    -- a number at the next place that was seen before
    pub seen_again : contains nat_cmp seen number ≡ true → n < length numbers → IsRepeat numbers n
    seen_again old lt =
        let at = are.had number old in
        record { within = lt; number = number; here = here; first = at.0; earlier = at.1; there = at.2 }

-- where all places are seen, no number stands at two
pub seen_all : (numbers : List (Option ℕ)) (n : ℕ) (seen : BTreeSet ℕ) → AreSeen numbers n seen → length numbers ≤ n → AreOnce numbers
seen_all numbers n seen are all number i j one two = are.once number i j (within i one) (within j two) one two
  where
    within : (place : ℕ) → StandsAt numbers number place → place < n
    within place there = ⊎_elim (λ lt. lt)
        (λ ge. absurd (let past = get_or_past numbers place None (omega arith) in let never : None ≡ Some number = sym past ∙ there in cc)) (cases_lt place n)
