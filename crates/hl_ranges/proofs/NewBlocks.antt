-- The block that a write leaves.
use Rattle.std.proofs.Common.{arith, ◌≡◌, ℕ, ◌+◌, ◌-◌, ◌*◌, ◌/◌, ◌<◌, ◌≤◌, Bool, true, false, true≢false, ◌&&◌, nat_le, List, length, take, drop, refl, inl, inr, ◌∙◌, ap, sym, if◌then◌else◌, ◌==◌}
use Rattle.std.proofs.lemmas.Bool.{cases_eq, cases_lt}
use Rattle.std.proofs.lemmas.Bool.Decides.{nat_tests}
use Rattle.hl_tree.specs.Contents.{written}
use Rattle.hl_placed.specs.Blocks.{padded_block}
use Rattle.hl_placed.specs.Changes.{covers}
use Rattle.hl_ranges.specs.Writing.{new_block}
use Rattle.hl_ranges.proofs.WrittenBlocks.{covered}

le_low : (a b c d : ℕ) → (nat_le a b && nat_le c d) ≡ true → a ≤ b
le_low a b c d e = grind (arith, nat_tests)

le_high : (a b c d : ℕ) → (nat_le a b && nat_le c d) ≡ true → c ≤ d
le_high a b c d e = grind (arith, nat_tests)

le_both : (a b c d : ℕ) → a ≤ b → c ≤ d → (nat_le a b && nat_le c d) ≡ true
le_both a b c d h k = grind (arith, nat_tests)

le_not : (a b c d : ℕ) → b < a → (nat_le a b && nat_le c d) ≡ false
le_not a b c d h = grind (arith, nat_tests)

le_not_high : (a b c d : ℕ) → d < c → (nat_le a b && nat_le c d) ≡ false
le_not_high a b c d h = grind (arith, nat_tests)

-- what bytes cover
pub covers_low : (from to i : ℕ) → covers from to i ≡ true → from ≤ 4096 * i
unfolding covers
covers_low from to i e = le_low from (4096 * i) (4096 * i + 4096) to e

pub covers_high : (from to i : ℕ) → covers from to i ≡ true → 4096 * i + 4096 ≤ to
unfolding covers
covers_high from to i e = le_high from (4096 * i) (4096 * i + 4096) to e

pub covers_is : (from to i : ℕ) → from ≤ 4096 * i → 4096 * i + 4096 ≤ to → covers from to i ≡ true
unfolding covers
covers_is from to i h k = le_both from (4096 * i) (4096 * i + 4096) to h k

eq_true : (a b : ℕ) → a ≡ b → (a == b) ≡ true
eq_true a b e = grind (arith, nat_tests)

eq_false : (a b : ℕ) → (a ≡ b → ⊥) → (a == b) ≡ false
eq_false a b ne = grind (arith, nat_tests)

module _ (at : ℕ) (bytes front back : List ℕ) (i : ℕ) where
  -- bytes that cover the block
  pub new_covered : (n from : ℕ) → n ≡ 4096 → from ≡ 4096 * i - at → covers at (at + length bytes) i ≡ true → take n (drop from bytes) ≡ new_block at bytes front back i
  unfolding new_block
  new_covered n from n_is from_is e = (λ j. take (n_is j) (drop (from_is j) bytes)) ∙ ap (λ b. if b then take 4096 (drop (4096 * i - at) bytes) else (if i == at / 4096 then front else back)) (sym e)

  -- the first block
  pub new_front : covers at (at + length bytes) i ≡ false → i ≡ at / 4096 → front ≡ new_block at bytes front back i
  unfolding new_block
  new_front e is =
      ap (λ b. if b then front else back) (sym (eq_true i (at / 4096) is))
      ∙ ap (λ b. if b then take 4096 (drop (4096 * i - at) bytes) else (if i == at / 4096 then front else back)) (sym e)

  -- the last
  pub new_back : covers at (at + length bytes) i ≡ false → (i ≡ at / 4096 → ⊥) → back ≡ new_block at bytes front back i
  unfolding new_block
  new_back e ne =
      ap (λ b. if b then front else back) (sym (eq_false i (at / 4096) ne))
      ∙ ap (λ b. if b then take 4096 (drop (4096 * i - at) bytes) else (if i == at / 4096 then front else back)) (sym e)

-- EACH BLOCK THAT BYTES TOUCH, of which all but the first and the last are covered
pub new_is : (at : ℕ) (bytes front back old : List ℕ) → 0 < length bytes → (covers at (at + length bytes) (at / 4096) ≡ false → front ≡ padded_block (written old at bytes) (at / 4096))
    → (at / 4096 < (at + length bytes - 1) / 4096 → covers at (at + length bytes) ((at + length bytes - 1) / 4096) ≡ false → back ≡ padded_block (written old at bytes) ((at + length bytes - 1) / 4096))
    → (i : ℕ) → at < 4096 * i + 4096 → 4096 * i < at + length bytes → new_block at bytes front back i ≡ padded_block (written old at bytes) i
new_is at bytes front back old some front_is back_is i begins ends = by (covers at (at + length bytes) i) refl
  where
    last_is : covers at (at + length bytes) i ≡ false → (i ≡ at / 4096 → ⊥) → i ≡ (at + length bytes - 1) / 4096
    last_is e ne = elim (cases_lt i ((at + length bytes - 1) / 4096)) as (λ _. i ≡ (at + length bytes - 1) / 4096) [
      | inl lt ↦
          let low : at ≤ 4096 * i = omega arith in
          let high : 4096 * i + 4096 ≤ at + length bytes = omega arith in
          absurd (true≢false (sym (covers_is at (at + length bytes) i low high) ∙ e))
      | inr ge ↦ omega arith
    ]

    by : (b : Bool) → covers at (at + length bytes) i ≡ b → new_block at bytes front back i ≡ padded_block (written old at bytes) i
    by true e = sym (new_covered at bytes front back i 4096 (4096 * i - at) refl refl e) ∙ covered i at bytes old (covers_low at (at + length bytes) i e) (covers_high at (at + length bytes) i e)
    by false e = elim (cases_eq i (at / 4096)) as (λ _. new_block at bytes front back i ≡ padded_block (written old at bytes) i) [
      | inl is ↦ sym (new_front at bytes front back i e is) ∙ front_is (ap (covers at (at + length bytes)) (sym is) ∙ e) ∙ ap (padded_block (written old at bytes)) (sym is)
      | inr ne ↦
          let last = last_is e ne in
          let more : at / 4096 < (at + length bytes - 1) / 4096 = omega arith in
          sym (new_back at bytes front back i e ne) ∙ back_is more (ap (covers at (at + length bytes)) (sym last) ∙ e) ∙ ap (padded_block (written old at bytes)) (sym last)
    ]
