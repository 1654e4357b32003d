-- A count of live blocks without one of them is one less.
use Rattle.std.proofs.Common.{◌≡◌, ◌≢◌, inl, inr, ℕ, ◌+◌, ◌-◌, ◌<◌, List, length, get_or, sym, ◌∙◌, ap, arith}
use Rattle.std.specs.Prelude.{Contains}
use Rattle.std.specs.List.{remove}
use Rattle.std.proofs.lemmas.Bool.{cases_lt}
use Rattle.std.proofs.lemmas.List.{get_or_default}
use Rattle.std.proofs.lemmas.List.Edits.{length-remove, get_or-remove_below, get_or-remove_above}
use Rattle.std.proofs.lemmas.List.Quantifiers.{all_pairs_remove}
use Rattle.hl_nodes.specs.Live.{LiveBlock}
use Rattle.hl_tally.specs.Tally.{HasCount}

-- what holds of the same blocks has the same count
pub count_same : (P Q : LiveBlock → Type 0) (n : ℕ) → ((x : LiveBlock) → P x → Q x) → ((x : LiveBlock) → Q x → P x) → HasCount P n → HasCount Q n
count_same P Q n to from has = record {
  blocks = has.blocks;
  lists = record { each = λ x. (λ i. to x ((has.lists.each x).0 i), λ q. (has.lists.each x).1 (from x q)); once = has.lists.once };
  count_is = has.count_is;
}

module _ (P Q : LiveBlock → Type 0) (y : LiveBlock) (without : (x : LiveBlock) → P x → x ≢ y → Q x) (back : (x : LiveBlock) → Q x → P x × (x ≢ y)) where
  module _ (n : ℕ) (has : HasCount P n) (i : ℕ) (lt : i < length has.blocks) (at : get_or has.blocks i y ≡ y) where
    abbrev rest : List LiveBlock
    rest = remove has.blocks i

    long : length rest + 1 ≡ length has.blocks
    long = length-remove has.blocks i lt

    at_any : (x : LiveBlock) → get_or has.blocks i x ≡ y
    at_any x = get_or_default has.blocks i x y lt ∙ at

    to : (x : LiveBlock) → Contains rest x → Q x
    to x c = elim (cases_lt c.0 i) [
      | inl below ↦ (
          let low = c.1 in
          let same : get_or has.blocks c.0 x ≡ x = sym (get_or-remove_below has.blocks i x c.0 below lt) ∙ c.2 in
          without x ((has.lists.each x).0 (c.0, omega (arith, long), same)) (λ e. has.lists.once c.0 i x below lt (same ∙ e ∙ sym (at_any x))))
      | inr above ↦ (
          let low = c.1 in
          let same : get_or has.blocks (c.0 + 1) x ≡ x = sym (get_or-remove_above has.blocks i x c.0 above lt) ∙ c.2 in
          without x ((has.lists.each x).0 (c.0 + 1, omega (arith, long), same)) (λ e. has.lists.once i (c.0 + 1) x (omega arith) (omega (arith, long)) (at_any x ∙ sym e ∙ sym same)))
    ]

    from : (x : LiveBlock) → Q x → Contains rest x
    from x q = by ((has.lists.each x).1 (back x q).0)
      where
        by : Contains has.blocks x → Contains rest x
        by c = elim (cases_lt c.0 i) [
          | inl below ↦ (c.0, omega (arith, long), get_or-remove_below has.blocks i x c.0 below lt ∙ c.2)
          | inr above ↦ elim (cases_lt i c.0) [
            | inl past ↦ (
                let inside = c.1 in
                let one : c.0 - 1 + 1 ≡ c.0 = omega arith in
                (c.0 - 1, omega (arith, long), get_or-remove_above has.blocks i x (c.0 - 1) (omega arith) lt ∙ ap (λ (k : ℕ). get_or has.blocks k x) one ∙ c.2))
            | inr up ↦ (let e : c.0 ≡ i = omega arith in absurd ((back x q).1 (sym c.2 ∙ ap (λ (k : ℕ). get_or has.blocks k x) e ∙ at_any x)))
          ]
        ]

    less : HasCount Q (n - 1)
    less = record {
      blocks = rest;
      lists = record { each = λ x. (to x, from x); once = all_pairs_remove (λ a b. a ≢ b) has.blocks i lt has.lists.once };
      count_is = omega (arith, long, has.count_is);
    }

  -- what holds of one block less
  pub count_less : (n : ℕ) → P y → HasCount P n → HasCount Q (n - 1)
  count_less n is has = by ((has.lists.each y).1 is)
    where
      by : Contains has.blocks y → HasCount Q (n - 1)
      by c = less n has c.0 c.1 c.2
