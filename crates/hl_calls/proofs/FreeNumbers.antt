-- The lowest number that isn't in use, by flags of the numbers in use.
use Rattle.std.proofs.Common.{arith, ◌≡◌, ℕ, ◌-◌, ◌<◌, ◌≤◌, Bool, true, false, List, Option, Some, None, is_some, IsSome, inl, inr, refl, ap, ◌∙◌, sym}
use Rattle.std.specs.Prelude.{slice_index_or}
use Rattle.std.specs.FinMap.{get}
use Rattle.std.proofs.lemmas.Bool.{cases_lt}
use Rattle.hl_paths.specs.Numbered.{NumberedNode, Numbering}
use Rattle.hl_paths.specs.Free.{lowest_free}
use Rattle.hl_paths.proofs.Free.{lowest_free-first, lowest_free-no}

true_false : true ≡ false → ⊥
true_false e = cc

-- nothing is there and something
not_both : {A : Type 0} (o : Option A) → o ≡ None → IsSome o → ⊥
not_both o none there = true_false (sym there ∙ ap is_some none)

module _ {B : Type 0} (nodes : Numbering B) (most : ℕ) where
  -- one that is free, where each before it is in use
  pub free_is : (n : ℕ) → 1 ≤ n → n ≤ most → get nodes n ≡ None → ((i : ℕ) → 1 ≤ i → i < n → IsSome (get nodes i)) → lowest_free nodes most ≡ Some n
  free_is n low high free used = elim (lowest_free nodes most) as (λ o. lowest_free nodes most ≡ o → o ≡ Some n) [
    | None ↦ λ e. absurd (not_both (get nodes n) free (lowest_free-no nodes most e n low high))
    | Some m ↦ λ e. let first = lowest_free-first nodes most m e in elim (cases_lt m n) [
      | inl less ↦ absurd (not_both (get nodes m) first.0 (used m first.1 less))
      | inr least ↦ elim (cases_lt n m) [
        | inl more ↦ absurd (not_both (get nodes n) free (first.3 n low more))
        | inr most ↦ let same : m ≡ n = omega (arith, least, most) in ap Some same
      ]
    ]
  ] refl

  -- and none, where all are in use
  pub none_is : ((i : ℕ) → 1 ≤ i → i ≤ most → IsSome (get nodes i)) → lowest_free nodes most ≡ None
  none_is used = elim (lowest_free nodes most) as (λ o. lowest_free nodes most ≡ o → o ≡ None) [
    | None ↦ λ e. refl
    | Some m ↦ λ e. let first = lowest_free-first nodes most m e in absurd (not_both (get nodes m) first.0 (used m first.1 first.2))
  ] refl

-- THE FLAGS TELL IT
module _ {B : Type 0} (nodes : Numbering B) (flags : List Bool) (count : ℕ)
    (told : (i : ℕ) → 1 ≤ i → i < count → slice_index_or flags i true ≡ is_some (get nodes i)) where
  nothing : {A : Type 0} (o : Option A) → is_some o ≡ false → o ≡ None
  nothing None e = refl
  nothing (Some x) e = absurd (true_false e)

  pub flagged_free : (n : ℕ) → 1 ≤ n → n < count → slice_index_or flags n true ≡ false
      → ((i : ℕ) → 1 ≤ i → i < n → slice_index_or flags i true ≡ true) → lowest_free nodes (count - 1) ≡ Some n
  flagged_free n low high free used = free_is nodes (count - 1) n low (omega (arith, high)) (nothing (get nodes n) (sym (told n low high) ∙ free))
      (λ i from to. sym (told i from (omega (arith, to, high))) ∙ used i from to)

  pub flagged_none : ((i : ℕ) → 1 ≤ i → i < count → slice_index_or flags i true ≡ true) → lowest_free nodes (count - 1) ≡ None
  flagged_none used = none_is nodes (count - 1) (λ i from to. let high : i < count = omega (arith, from, to) in sym (told i from high) ∙ used i from high)
