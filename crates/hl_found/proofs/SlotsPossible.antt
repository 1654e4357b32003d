-- Slots that are possible, slot by slot and pair by pair.
use Rattle.std.proofs.Common.{◌≡◌, ⊎_elim, ℕ, ◌+◌, ◌<◌, ◌≤◌, List, [], ◌∷◌, length, refl, sym, ap, ◌∙◌, subst, arith}
use Rattle.std.specs.Prelude.{Option, Some, None, count_by}
use Rattle.std.specs.List.{fold, slice_index_or}
use Rattle.std.proofs.lemmas.Bool.{cases_lt, cases_eq}
use Rattle.std.proofs.lemmas.List.{get_or_default, get_or_past}
use Rattle.hl_addr.specs.Layout.{Layout}
use Rattle.hl_image.specs.declared.chain.ChainPart.{ChainPart}
use Rattle.hl_tseg.specs.declared.slot.Slot.{Slot}
use Rattle.hl_tseg.specs.declared.slot.Slot.TheVariants.{Free, Staged, Home, Spoilt}
use Rattle.hl_tseg.specs.SlotTable.{SlotTable, slot_at}
use Rattle.hl_tseg.specs.Slots.{is_staged, serial_of}
use Rattle.hl_nodes.specs.Sound.{AreSlots}
use Rattle.hl_nodes.specs.Tables.{raised, parts_raised}
use Rattle.hl_found.specs.Found.{parts_found}
use Rattle.hl_found.specs.Slots.{line_of, IsPossible, Differ, AreTwo}

-- parts raise a serial one after the other
pub parts_raise : (next : ℕ) (chain : List ChainPart) → fold (λ n p. fold raised n p.summary.tables) next chain ≡ parts_raised next (parts_found chain)
parts_raise next [] = refl
parts_raise next (p ∷ chain) = parts_raise (fold raised next p.summary.tables) chain

-- numbers that are the same don't differ, and those that are never the same do
not_one : (o p : Option ℕ) (x : ℕ) → o ≡ Some x → p ≡ Some x → Differ o p → ⊥
not_one None p x e f differ = (let never : None ≡ Some x = e in cc)
not_one (Some a) None x e f differ = (let never : None ≡ Some x = f in cc)
not_one (Some a) (Some b) x e f differ = differ (let p : Some a ≡ Some b = e ∙ sym f in cc)

never_one : (o p : Option ℕ) → ((x : ℕ) → o ≡ Some x → p ≡ Some x → ⊥) → Differ o p
never_one None p never = tt
never_one (Some a) None never = tt
never_one (Some a) (Some b) never = λ e. never b (ap Some e) refl

line_staged : (slot : Slot) (line : ℕ) → line_of slot ≡ Some line → (serial : ℕ) × (slot ≡ Staged line serial)
line_staged Free line e = absurd (cc)
line_staged (Staged l serial) line e = (serial, (cc))
line_staged (Home serial) line e = absurd (cc)
line_staged Spoilt line e = absurd (cc)

serial_low : (lines next : ℕ) (slot : Slot) (serial : ℕ) → IsPossible lines next slot → serial_of slot ≡ Some serial → serial < next
serial_low lines next Free serial is e = absurd (cc)
serial_low lines next (Staged line own) serial is e = let same : own ≡ serial = cc in subst (λ (n : ℕ). n < next) same is.1
serial_low lines next (Home own) serial is e = let same : own ≡ serial = cc in subst (λ (n : ℕ). n < next) same is
serial_low lines next Spoilt serial is e = absurd (cc)

line_low : (lines next : ℕ) (slot : Slot) (line : ℕ) → IsPossible lines next slot → line_of slot ≡ Some line → line < lines
line_low lines next Free line is e = absurd (cc)
line_low lines next (Staged l serial) line is e = let same : l ≡ line = cc in subst (λ (n : ℕ). n < lines) same is.0
line_low lines next (Home serial) line is e = absurd (cc)
line_low lines next Spoilt line is e = absurd (cc)

made_possible : (lines next : ℕ) (slot : Slot) → ((line serial : ℕ) → slot ≡ Staged line serial → line < lines) → ((serial : ℕ) → serial_of slot ≡ Some serial → serial < next) → IsPossible lines next slot
made_possible lines next Free low below = tt
made_possible lines next (Staged line serial) low below = (low line serial refl, below serial refl)
made_possible lines next (Home serial) low below = below serial refl
made_possible lines next Spoilt low below = tt

-- what is possible of an item of a list is of the slot, and the other way round
pub possible_here : (own lines next : ℕ) (items slots : List Slot) (i : ℕ) (d : Slot) → own ≡ lines → items ≡ slots → i < length slots → IsPossible own next (slice_index_or items i Free) → IsPossible lines next (slice_index_or slots i d)
possible_here own lines next items slots i d e f lt is = subst (IsPossible lines next) (get_or_default slots i Free d lt)
    (subst (λ (l : List Slot). IsPossible lines next (slice_index_or l i Free)) f (subst (λ (n : ℕ). IsPossible n next (slice_index_or items i Free)) e is))

pub possible_there : (own lines next : ℕ) (items slots : List Slot) (i : ℕ) → own ≡ lines → items ≡ slots → IsPossible lines next (slice_index_or slots i Free) → IsPossible own next (slice_index_or items i Free)
possible_there own lines next items slots i e f is = subst (λ (n : ℕ). IsPossible n next (slice_index_or items i Free)) (sym e) (subst (λ (l : List Slot). IsPossible lines next (slice_index_or l i Free)) (sym f) is)

module _ (g : Layout) (t : SlotTable) (next : ℕ) where
  -- each of the first slots is possible, and shares nothing with one before it
  abbrev pub AreApart : ℕ → Type 0
  AreApart n = (i j : ℕ) (d : Slot) → i < n → j < i → AreTwo (slice_index_or t.slots i d) (slice_index_or t.slots j d)

  abbrev pub AreEach : ℕ → Type 0
  AreEach n = (i : ℕ) (d : Slot) → i < n → IsPossible g.lines next (slice_index_or t.slots i d)

  -- a slot with a number is there
  there : (n : ℕ) (f : Slot → Option ℕ) (x : ℕ) → f Free ≡ None → f (slot_at t n) ≡ Some x → n < length t.slots
  there n f x free e = ⊎_elim (λ lt. lt) (λ ge. absurd (let past = ap f (get_or_past t.slots n Free ge) in let never : None ≡ Some x = sym free ∙ sym past ∙ e in cc)) (cases_lt n (length t.slots))

  one_place : (f : Slot → Option ℕ) → f Free ≡ None → ((i j : ℕ) → i < length t.slots → j < i → Differ (f (slot_at t i)) (f (slot_at t j))) → (m n x : ℕ) → f (slot_at t m) ≡ Some x → f (slot_at t n) ≡ Some x → m ≡ n
  one_place f free differ m n x a b = ⊎_elim
      (λ lt. absurd (not_one (f (slot_at t n)) (f (slot_at t m)) x b a (differ n m (there n f x free b) lt)))
      (λ ge. ⊎_elim (λ same. same) (λ other. absurd (not_one (f (slot_at t m)) (f (slot_at t n)) x a b (differ m n (there m f x free a) (less m n ge other)))) (cases_eq m n))
      (cases_lt m n)
    where
      less : (m n : ℕ) → n ≤ m → (m ≡ n → ⊥) → n < m
      less m n ge other = ⊎_elim (λ h. h) (λ le. absurd (other (omega arith))) (cases_lt n m)

  pub slots_are : count_by is_staged t.slots + 12 ≤ g.lines → AreEach (length t.slots) → AreApart (length t.slots) → AreSlots g t next
  slots_are few each apart = record {
    lines = λ n line serial e. (let own = ap line_of e in line_low g.lines next (slot_at t n) line (each n Free (there n line_of line refl own)) own);
    one_line = λ m n line a b e f. one_place line_of refl (λ i j lt low. (apart i j Free lt low).0) m n line (ap line_of e) (ap line_of f);
    few = few;
    below = λ n serial e. serial_low g.lines next (slot_at t n) serial (each n Free (there n serial_of serial refl e)) e;
    one_slot = λ m n serial e f. one_place serial_of refl (λ i j lt low. (apart i j Free lt low).1) m n serial e f;
  }

  pub each_is : AreSlots g t next → (i : ℕ) (d : Slot) → i < length t.slots → IsPossible g.lines next (slice_index_or t.slots i d)
  each_is are i d lt = subst (IsPossible g.lines next) (get_or_default t.slots i Free d lt) (made_possible g.lines next (slot_at t i) (are.lines i) (are.below i))

  pub two_are : AreSlots g t next → (i j : ℕ) (d : Slot) → i < length t.slots → j < i → AreTwo (slice_index_or t.slots i d) (slice_index_or t.slots j d)
  two_are are i j d lt low =
      let later : j < length t.slots = omega arith in
      subst (λ (s : Slot). AreTwo s (slice_index_or t.slots j d)) (get_or_default t.slots i Free d lt) (subst (AreTwo (slot_at t i)) (get_or_default t.slots j Free d later) (
        never_one (line_of (slot_at t i)) (line_of (slot_at t j)) (λ x a b. (let p = line_staged (slot_at t i) x a in let q = line_staged (slot_at t j) x b in let same = are.one_line i j x p.0 q.0 p.1 q.1 in omega arith)),
        never_one (serial_of (slot_at t i)) (serial_of (slot_at t j)) (λ x a b. (let same = are.one_slot i j x a b in omega arith)),
      ))
