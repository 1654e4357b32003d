-- Flags of segments that are set, one address or one segment more at a time.
use Rattle.std.proofs.Common.{◌≡◌, ◌⊎◌, inl, inr, ℕ, ◌+◌, ◌/◌, ◌<◌, Bool, false, List, length, sym, ◌∙◌, ap, subst, arith}
use Rattle.std.specs.Prelude.{◌↔◌, slice_index}
use Rattle.std.specs.List.{slice_index_or}
use Rattle.std.proofs.lemmas.Bool.{cases_eq}
use Rattle.hl_census.specs.Straying.{IsSet}

-- one of the first addresses lies in the segment
abbrev pub HaveOneBefore : ℕ → List ℕ → ℕ → ℕ → Type 0
HaveOneBefore k xs i seg = (j : ℕ) × (j < i) × (slice_index xs j / k ≡ seg)

pub marked_more : (k i : ℕ) (old now next : List Bool) (xs : List ℕ) (seg : ℕ) → seg < length now
    → IsSet now seg ↔ (IsSet old seg ⊎ HaveOneBefore k xs i seg)
    → (slice_index xs i / k < length now → IsSet next (slice_index xs i / k))
    → ((s : ℕ) → (slice_index xs i / k ≡ s → ⊥) → slice_index_or next s false ≡ slice_index_or now s false)
    → IsSet next seg ↔ (IsSet old seg ⊎ HaveOneBefore k xs (i + 1) seg)
marked_more k i old now next xs seg lt so_far here elsewhere = (to, from)
  where
    wider : IsSet old seg ⊎ HaveOneBefore k xs i seg → IsSet old seg ⊎ HaveOneBefore k xs (i + 1) seg
    wider (inl set) = inl set
    wider (inr one) = (let low = one.1 in inr (one.0, omega arith, one.2))

    to : IsSet next seg → IsSet old seg ⊎ HaveOneBefore k xs (i + 1) seg
    to set = elim (cases_eq (slice_index xs i / k) seg) [
      | inl e ↦ inr (i, omega arith, e)
      | inr ne ↦ wider (so_far.0 (sym (elsewhere seg ne) ∙ set))
    ]

    narrower : (slice_index xs i / k ≡ seg → ⊥) → IsSet old seg ⊎ HaveOneBefore k xs (i + 1) seg → IsSet old seg ⊎ HaveOneBefore k xs i seg
    narrower ne (inl set) = inl set
    narrower ne (inr one) = inr (one.0, below, one.2)
      where
        below : one.0 < i
        below = elim (cases_eq one.0 i) [
          | inl same ↦ absurd (ne (ap (λ (j : ℕ). slice_index xs j / k) (sym same) ∙ one.2))
          | inr apart ↦ (let lt = one.1 in omega arith)
        ]

    from : IsSet old seg ⊎ HaveOneBefore k xs (i + 1) seg → IsSet next seg
    from one = elim (cases_eq (slice_index xs i / k) seg) [
      | inl e ↦ subst (IsSet next) e (here (subst (λ (s : ℕ). s < length now) (sym e) lt))
      | inr ne ↦ elsewhere seg ne ∙ so_far.1 (narrower ne one)
    ]
