-- The slot that waits for a line.
use Rattle.std.proofs.Common.{arith, ◌≡◌, ℕ, zero, suc, ◌<◌, Bool, true, false, nat_eq, List, [], ◌∷◌, get_or, length, Option, Some, None, refl, ap, ◌∙◌, sym, subst, T}
use Rattle.std.proofs.lemmas.Bool.Decides.{nat_tests}
use Rattle.std.proofs.lemmas.List.Quantifiers.{position-Some}
use Rattle.std.specs.List.{position}
use Rattle.hl_tseg.specs.declared.slot.Slot.{Slot}
use Rattle.hl_tseg.specs.declared.slot.Slot.TheVariants.{Free}
use Rattle.hl_lines.specs.Lines.{is}
use Rattle.hl_model.specs.Lines.{staged_line}
use Rattle.hl_model.proofs.Sets.{is_there, true_false}

is_line : (o : Option ℕ) (line : ℕ) → is o line ≡ true → o ≡ Some line
is_line None line e = absurd (subst T (sym e) tt)
is_line (Some n) line e = let same : n ≡ line = grind (arith, nat_tests) in ap Some same

none_found : (p : Slot → Bool) (slots : List Slot) → position p slots ≡ None → (i : ℕ) → i < length slots → p (get_or slots i Free) ≡ false
none_found p [] e i low = absurd (omega arith)
none_found p (slot ∷ slots) e zero low = elim (p slot) as (λ b. p slot ≡ b → p slot ≡ false) [
  | true ↦ λ f. let wrong : ⊥ = grind arith in absurd wrong
  | false ↦ λ f. f
] refl
none_found p (slot ∷ slots) e (suc i) low = elim (p slot) as (λ b. p slot ≡ b → p (get_or slots i Free) ≡ false) [
  | true ↦ λ f. let wrong : ⊥ = grind arith in absurd wrong
  | false ↦ λ f. none_found p slots (grind arith) i (omega arith)
] refl

module _ (slots : List Slot) where
  abbrev pub slot_of_line : ℕ → Option ℕ
  slot_of_line line = position (λ slot. is (staged_line slot) line) slots

  -- the slot that waits for a line is found
  pub at_staged : (line t : ℕ) → slot_of_line line ≡ Some t → staged_line (get_or slots t Free) ≡ Some line
  at_staged line t e = let found = position-Some (λ slot. is (staged_line slot) line) slots t Free e in is_line (staged_line (get_or slots t Free)) line found.1

  pub found_at : ((t u line : ℕ) → staged_line (get_or slots t Free) ≡ Some line → staged_line (get_or slots u Free) ≡ Some line → t ≡ u) → (line t : ℕ) → staged_line (get_or slots t Free) ≡ Some line → slot_of_line line ≡ Some t
  found_at one_line line t e = by_place (slot_of_line line) refl
    where
      by_place : (o : Option ℕ) → slot_of_line line ≡ o → slot_of_line line ≡ Some t
      by_place None f =
          let low = is_there staged_line slots t Free (λ same. let wrong : None ≡ Some line = sym same ∙ e in cc) in
          let not_it = none_found (λ slot. is (staged_line slot) line) slots f t low in
          let it : is (staged_line (get_or slots t Free)) line ≡ true = ap (λ o. is o line) e ∙ (let same : nat_eq line line ≡ true = grind (arith, nat_tests) in same) in
          true_false (is (staged_line (get_or slots t Free)) line) it not_it
      by_place (Some u) f = f ∙ ap Some (one_line u t line (at_staged line u f) e)
