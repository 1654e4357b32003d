-- A finite map that has what is chosen for each number below a bound.
use Rattle.std.proofs.Common.{◌≡◌, ◌⊎◌, inl, inr, ⊎_elim, ℕ, zero, suc, ◌<◌, ◌≤◌, Bool, true, false, List, cond, nat_eq, length, refl, sym, ◌∙◌, ap, subst, arith}
use Rattle.std.specs.Prelude.{Option, Some, None}
use Rattle.std.specs.List.{slice_index_or}
use Rattle.std.specs.Ordering.{nat_cmp}
use Rattle.std.specs.Cmp.{unsigned_tied}
use Rattle.std.specs.FinMap.{FinMap, empty, get, get-empty, get-insert, insert}
use Rattle.std.proofs.lemmas.Cmp.{nat_cmp_total}
use Rattle.std.proofs.lemmas.Bool.{cases_lt}
use Rattle.std.proofs.lemmas.Bool.Decides.{nat_tests}
use Rattle.std.proofs.lemmas.List.FromFn.{length-map-range_with_len, get_or-map-range_with_len}
use Rattle.std.specs.List.{range_with_len}
use Rattle.std.specs.Prelude.{map}

module _ {A : Type 0} where
  at_number : (m : FinMap nat_cmp A) (number : ℕ) (x : A) (i : ℕ) (b : Bool) → nat_eq i number ≡ b → get (insert m number x) i ≡ cond b (Some x) (get m i)
  at_number m number x i b e = get-insert nat_cmp_total m number x i ∙ ap (λ (c : Bool). cond c (Some x) (get m i)) (unsigned_tied i number ∙ e)

  -- with a value at a number, or none more
  put : Option A → ℕ → FinMap nat_cmp A → FinMap nat_cmp A
  put None number m = m
  put (Some x) number m = insert m number x

  put-here : (o : Option A) (number : ℕ) (m : FinMap nat_cmp A) → get m number ≡ None → get (put o number m) number ≡ o
  unfolding put
  put-here None number m none = none
  put-here (Some x) number m none = at_number m number x number true (grind (arith, nat_tests))

  put-other : (o : Option A) (number : ℕ) (m : FinMap nat_cmp A) (i : ℕ) → (i ≡ number → ⊥) → get (put o number m) i ≡ get m i
  unfolding put
  put-other None number m i differ = refl
  put-other (Some x) number m i differ = at_number m number x i false (grind (arith, nat_tests))

module _ {A : Type 0} (P : ℕ → Option A → Type 0) where
  pub record HasChosen (n : ℕ) : Type 0 where
    pub chosen : FinMap nat_cmp A
    pub each : (i : ℕ) → i < n → P i (get chosen i)
    pub past : (i : ℕ) → n ≤ i → get chosen i ≡ None

  -- a map has them
  pub choose : (n : ℕ) → ((i : ℕ) → i < n → (o : Option A) × P i o) → HasChosen n
  choose zero choice = record { chosen = empty; each = λ i lt. absurd (omega arith); past = λ i le. get-empty nat_cmp i }
  choose (suc n) choice =
      let before = choose n (λ i lt. choice i (omega arith)) in
      let last = choice n (omega arith) in
      record {
        chosen = put last.0 n before.chosen;
        each = λ i lt. ⊎_elim
            (λ low. subst (P i) (sym (put-other last.0 n before.chosen i (λ e. (let never : ⊥ = omega arith in never)))) (before.each i low))
            (λ high.
            let e : n ≡ i = omega arith in
            subst (λ (k : ℕ). P k (get (put last.0 n before.chosen) k)) e (subst (P n) (sym (put-here last.0 n before.chosen (before.past n (omega arith)))) last.1))
            (cases_lt i n);
        past = λ i le. put-other last.0 n before.chosen i (λ e. (let never : ⊥ = omega arith in never)) ∙ before.past i (omega arith);
      }

-- a list that has what is chosen for each of its places
module _ {A : Type 0} (Q : ℕ → A → Type 0) (d : A) where
  pub choose_list : (n : ℕ) → ((i : ℕ) → i < n → (x : A) × Q i x) → (xs : List A) × (length xs ≡ n) × ((i : ℕ) → i < n → Q i (slice_index_or xs i d))
  choose_list n choice =
      let value : ℕ → A = λ i. ⊎_elim (λ lt. (choice i lt).0) (λ ge. d) (cases_lt i n) in (
        map value (range_with_len 0 n),
        length-map-range_with_len value 0 n,
        λ i lt. subst (Q i) (sym (get_or-map-range_with_len value 0 n i i d lt (omega arith))) (by i lt (cases_lt i n)),
      )
    where
      by : (i : ℕ) → i < n → (c : (i < n) ⊎ (n ≤ i)) → Q i (⊎_elim (λ lt. (choice i lt).0) (λ ge. d) c)
      by i lt (inl low) = (choice i low).1
      by i lt (inr high) = absurd (omega arith)
