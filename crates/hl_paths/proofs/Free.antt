-- A number is free exactly where fewer are in use than there are.
use Rattle.std.proofs.Common.{arith, ◌≡◌, ℕ, zero, suc, ◌+◌, ◌-◌, ◌<◌, ◌≤◌, nat_le, Bool, true, false, cond, List, [], ◌∷◌, length, Option, Some, None, is_some, is_none, IsSome, inl, inr, refl, ap, ◌∙◌, sym, subst}
use Rattle.std.proofs.lemmas.Bool.{cases_lt}
use Rattle.std.proofs.lemmas.Bool.Decides.{nat_tests}
use Rattle.std.specs.List.{find, range_with_len, AllByRecursion}
use Rattle.std.specs.Cmp.{nat_cmp_total}
use Rattle.std.specs.FinMap.{get, insert, remove, len, entries, entries_sorted, get-entries, get-empty, len-entries, len-insert, len-remove, empty_of_len}
use Rattle.std.specs.FinMap.Entries as rows
use Rattle.std.specs.Ordering.{nat_cmp}
use Rattle.hl_paths.specs.Numbered.{NumberedNode, Directory, Numbering}
use Rattle.hl_paths.specs.Free.{lowest_free, AreUpTo}
use Rattle.hl_paths.proofs.Links.{none_some, true_false}
use Rattle.hl_paths.proofs.Nodes.{is_there, some_of, put-cases, get-gone_other, gone-cases}
use Rattle.hl_paths.proofs.Counts.{each_found}

module _ (p : ℕ → Bool) where
  found_passes : (a n k : ℕ) → find p (range_with_len a n) ≡ Some k → (p k ≡ true) × (a ≤ k) × (k < a + n)
  found_passes a zero k e = absurd (none_some e)
  found_passes a (suc n) k e = elim (p a) as (λ b. p a ≡ b → cond b (Some a) (find p (range_with_len (a + 1) n)) ≡ Some k → (p k ≡ true) × (a ≤ k) × (k < a + suc n)) [
    | true ↦ λ t f. let same : a ≡ k = cc in (ap p (sym same) ∙ t, omega arith, omega arith)
    | false ↦ λ t f. let later = found_passes (a + 1) n k f in (later.0, omega arith, omega arith)
  ] refl e

  none_passes : (a n : ℕ) → find p (range_with_len a n) ≡ None → (k : ℕ) → a ≤ k → k < a + n → p k ≡ false
  none_passes a zero e k low high = absurd (omega arith)
  none_passes a (suc n) e k low high = elim (p a) as (λ b. p a ≡ b → cond b (Some a) (find p (range_with_len (a + 1) n)) ≡ None → p k ≡ false) [
    | true ↦ λ t f. absurd (none_some (sym f))
    | false ↦ λ t f. elim (cases_lt a k) as (λ _. p k ≡ false) [
      | inl h ↦ none_passes (a + 1) n f k (omega arith) (omega arith)
      | inr h ↦ let same : k ≡ a = omega arith in ap p same ∙ t
    ]
  ] refl e

  -- none that was tried before passes
  found_first : (a n k : ℕ) → find p (range_with_len a n) ≡ Some k → (j : ℕ) → a ≤ j → j < k → p j ≡ false
  found_first a zero k e j low high = absurd (none_some e)
  found_first a (suc n) k e j low high = elim (p a) as (λ b. p a ≡ b → cond b (Some a) (find p (range_with_len (a + 1) n)) ≡ Some k → p j ≡ false) [
    | true ↦ λ t f. let same : a ≡ k = cc in absurd (omega arith)
    | false ↦ λ t f. elim (cases_lt a j) as (λ _. p j ≡ false) [
      | inl h ↦ found_first (a + 1) n k f j (omega arith) high
      | inr h ↦ let same : j ≡ a = omega arith in ap p same ∙ t
    ]
  ] refl e

cond_less : (b : Bool) (n : ℕ) → n ≤ cond b (n - 1) n + 1
cond_less true n = omega arith
cond_less false n = omega arith

nothing : {A : Type 0} (o : Option A) → is_none o ≡ true → o ≡ None
nothing None e = refl
nothing (Some x) e = absurd (true_false (sym e))

something : {A : Type 0} (o : Option A) → is_none o ≡ false → IsSome o
something None e = absurd (true_false e)
something (Some x) e = refl

module _ {B : Type 0} where
  len-there : (nodes : Numbering B) (number : ℕ) → IsSome (get nodes number) → 1 ≤ len nodes
  len-there nodes number there = elim (len nodes) as (λ n. len nodes ≡ n → 1 ≤ n) [
    | zero ↦ λ e. absurd (true_false (sym there ∙ ap (λ m. is_some (get m number)) (empty_of_len nodes e) ∙ ap is_some (get-empty nat_cmp number)))
    | suc n ↦ λ e. omega arith
  ] refl

  -- numbers in a row that are all in use
  full : (n low : ℕ) (nodes : Numbering B) → ((k : ℕ) → low ≤ k → k < low + n → IsSome (get nodes k)) → n ≤ len nodes
  full zero low nodes all = omega arith
  full (suc n) low nodes all =
      let here : IsSome (get nodes low) = all low (omega arith) (omega arith) in
      let rest : n ≤ len (remove nodes low) = full n (low + 1) (remove nodes low) (λ k from to. ap is_some (get-gone_other nodes low k (λ e. omega arith)) ∙ all k (omega arith) (omega arith)) in
      let less : len (remove nodes low) ≡ len nodes - 1 = len-remove nat_cmp_total nodes low ∙ ap (λ b. cond b (len nodes - 1) (len nodes)) here in
      let some = len-there nodes low here in
      omega arith

  -- numbers that all stand in a row
  within : (n low : ℕ) (nodes : Numbering B) → ((k : ℕ) → IsSome (get nodes k) → (low ≤ k) × (k < low + n)) → len nodes ≤ n
  within zero low nodes all = subst (λ k. k ≤ 0) (sym (len-entries nodes)) (no_rows (entries nodes) refl)
    where
      no_rows : (es : List (ℕ × NumberedNode B)) → entries nodes ≡ es → length es ≤ 0
      no_rows [] e = omega arith
      no_rows (r ∷ es) e =
          let each = subst (λ es. AllByRecursion (λ f. rows.find nat_cmp f.0 es ≡ Some f.1) es) e (each_found (entries nodes) (entries_sorted nodes)) in
          let found : get nodes r.0 ≡ Some r.1 = get-entries nodes r.0 ∙ ap (rows.find nat_cmp r.0) e ∙ each.0 in
          let place = all r.0 (is_there r.1 found) in
          absurd (omega arith)
  within (suc n) low nodes all =
      let rest : len (remove nodes low) ≤ n = within n (low + 1) (remove nodes low) (λ k there.
      let found = some_of (get (remove nodes low) k) there in
      let was = gone-cases nodes low k found.0 found.1 in
      let place = all k (is_there found.0 was.1) in
      let differ : k ≡ low → ⊥ = was.0 in
      (omega arith, omega arith)) in
      let less : len (remove nodes low) ≡ cond (is_some (get nodes low)) (len nodes - 1) (len nodes) = len-remove nat_cmp_total nodes low in
      let one = cond_less (is_some (get nodes low)) (len nodes) in
      omega arith

  module _ (nodes : Numbering B) (most : ℕ) where
    -- the lowest free number isn't in use, and is one of those that there are
    pub lowest_free-free : (number : ℕ) → lowest_free nodes most ≡ Some number → (get nodes number ≡ None) × (1 ≤ number) × (number ≤ most)
    unfolding lowest_free
    lowest_free-free number e =
        let passes = found_passes (λ number. is_none (get nodes number)) 1 most number e in
        let low = passes.1 in
        let high = passes.2 in
        (nothing (get nodes number) passes.0, omega arith, omega arith)

    -- and each before it is in use
    pub lowest_free-first : (number : ℕ) → lowest_free nodes most ≡ Some number
        → (get nodes number ≡ None) × (1 ≤ number) × (number ≤ most) × ((other : ℕ) → 1 ≤ other → other < number → IsSome (get nodes other))
    unfolding lowest_free
    lowest_free-first number e =
        let free = lowest_free-free number e in
        (free.0, free.1, free.2, λ other low high. something (get nodes other) (found_first (λ number. is_none (get nodes number)) 1 most number e other low high))

    -- where none is found all are in use
    pub lowest_free-no : lowest_free nodes most ≡ None → (number : ℕ) → 1 ≤ number → number ≤ most → IsSome (get nodes number)
    unfolding lowest_free
    lowest_free-no e number low high = something (get nodes number) (none_passes (λ number. is_none (get nodes number)) 1 most e number low (omega arith))

    -- a number is free exactly where fewer are in use than there are
    pub lowest_free-none : AreUpTo most nodes → nat_le most (len nodes) ≡ is_none (lowest_free nodes most)
    unfolding lowest_free
    lowest_free-none up_to = elim (find (λ number. is_none (get nodes number)) (range_with_len 1 most)) as (λ o. find (λ number. is_none (get nodes number)) (range_with_len 1 most) ≡ o → nat_le most (len nodes) ≡ is_none o) [
      | None ↦ λ e. let more : most ≤ len nodes = full most 1 nodes (λ k low high. something (get nodes k) (none_passes (λ number. is_none (get nodes number)) 1 most e k low high)) in grind (arith, nat_tests)
      | Some number ↦ λ e. let less : len nodes < most = room number e in grind (arith, nat_tests)
    ] refl
      where
        room : (number : ℕ) → find (λ number. is_none (get nodes number)) (range_with_len 1 most) ≡ Some number → len nodes < most
        room number e =
            let passes = found_passes (λ number. is_none (get nodes number)) 1 most number e in
            let low = passes.1 in
            let high = passes.2 in
            let new : NumberedNode B = Directory [] in
            let fits : len (insert nodes number new) ≤ most = within most 1 (insert nodes number new) (λ k there.
            let found = some_of (get (insert nodes number new) k) there in
            put-cases nodes number new ((1 ≤ k) × (k < 1 + most)) k found.0 found.1 (λ f g. (omega arith, omega arith)) (λ f g. let place = up_to k (is_there found.0 g) in (omega arith, omega arith))) in
            let more : len (insert nodes number new) ≡ len nodes + 1 = len-insert nat_cmp_total nodes number new ∙ ap (λ o. cond (is_some o) (len nodes) (len nodes + 1)) (nothing (get nodes number) passes.0) in
            omega arith
