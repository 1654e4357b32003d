-- The test of a quota, and the charge of a directory, by numbers.
use Rattle.std.proofs.Common.{◌≡◌, inl, inr, ℕ, ◌+◌, ◌<◌, ◌≤◌, Bool, true, false, ◌&&◌, nat_lt, refl, sym, ◌∙◌, ap, subst, arith}
use Rattle.std.specs.Int.{div_ceil}
use Rattle.std.proofs.lemmas.Bool.{cases_lt}
use Rattle.std.proofs.lemmas.Bool.Decides.{nat_tests}
use Rattle.hl_placed.specs.Blocks.{blocks_of}
use Rattle.hl_placed.specs.Charges.{parts_charge}
use Rattle.hl_calls.specs.Growths.{directory_charge, exceeds}

lt_true : (a b : ℕ) → a < b → nat_lt a b ≡ true
lt_true a b lt = grind (arith, nat_tests)

lt_false : (a b : ℕ) → b ≤ a → nat_lt a b ≡ false
lt_false a b le = grind (arith, nat_tests)

swap : (b c : Bool) → (b && c) ≡ (c && b)
swap true true = refl
swap true false = refl
swap false true = refl
swap false false = refl

-- A CHARGE EXCEEDS a quota, and grows, where more is added than removed and too much
over_is : (quota before added removed after : ℕ) → after + removed ≡ before + added → (nat_lt removed added && nat_lt (quota + removed) (before + added)) ≡ exceeds quota before after
over_is quota before added removed after grows =
    (λ i. more i && above i) ∙ swap (nat_lt before after) (nat_lt quota after)
  where
    more : nat_lt removed added ≡ nat_lt before after
    more = elim (cases_lt removed added) as (λ _. nat_lt removed added ≡ nat_lt before after) [
      | inl lt ↦ lt_true removed added lt ∙ sym (lt_true before after (omega arith))
      | inr ge ↦ lt_false removed added ge ∙ sym (lt_false before after (omega arith))
    ]

    above : nat_lt (quota + removed) (before + added) ≡ nat_lt quota after
    above = elim (cases_lt quota after) as (λ _. nat_lt (quota + removed) (before + added) ≡ nat_lt quota after) [
      | inl lt ↦ lt_true (quota + removed) (before + added) (omega arith) ∙ sym (lt_true quota after lt)
      | inr ge ↦ lt_false (quota + removed) (before + added) (omega arith) ∙ sym (lt_false quota after ge)
    ]

-- where more is added than removed, the sums decide
pub over_growing : (quota before added removed after quota_is charge_is : ℕ) → quota_is ≡ quota → charge_is ≡ before → after + removed ≡ before + added → removed < added
    → nat_lt (quota_is + removed) (charge_is + added) ≡ exceeds quota before after
over_growing quota before added removed after quota_is charge_is q b grows lt =
    (λ i. nat_lt (q i + removed) (b i + added))
    ∙ ap (λ c. c && nat_lt (quota + removed) (before + added)) (sym (lt_true removed added lt))
    ∙ over_is quota before added removed after grows

-- else it isn't exceeded
pub over_shrinking : (quota before added removed after : ℕ) → after + removed ≡ before + added → added ≤ removed → nat_lt removed added ≡ exceeds quota before after
over_shrinking quota before added removed after grows le =
    lt_false removed added le
    ∙ ap (λ c. c && nat_lt (quota + removed) (before + added)) (sym (lt_false removed added le))
    ∙ over_is quota before added removed after grows

-- A DIRECTORY of many blocks has a pointer block
pub charge-many : (size blocks : ℕ) → blocks ≡ div_ceil size 4096 → 12 < blocks → blocks + 2 ≡ directory_charge size
unfolding directory_charge blocks_of
charge-many size blocks is lt =
    let test : nat_lt 12 blocks ≡ true = lt_true 12 blocks lt in
    let sum : blocks + 2 ≡ 2 + blocks = omega arith in
    sum ∙ ap (λ b. parts_charge b blocks) (sym test) ∙ ap (λ n. parts_charge (nat_lt 12 n) n) is

-- one of few has none
pub charge-few : (size blocks : ℕ) → blocks ≡ div_ceil size 4096 → blocks ≤ 12 → blocks + 1 ≡ directory_charge size
unfolding directory_charge blocks_of
charge-few size blocks is le =
    let test : nat_lt 12 blocks ≡ false = lt_false 12 blocks le in
    let sum : blocks + 1 ≡ 1 + blocks = omega arith in
    sum ∙ ap (λ b. parts_charge b blocks) (sym test) ∙ ap (λ n. parts_charge (nat_lt 12 n) n) is
