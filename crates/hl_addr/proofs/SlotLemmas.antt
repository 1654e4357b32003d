-- The slots of all volumes in one row.
use Rattle.std.proofs.Common.{◌≡◌, ℕ, ◌+◌, ◌<◌, ◌≤◌, List, length, sum, take, slice_index, All, inl, inr, subst, ap, arith}
use Rattle.std.proofs.lemmas.Bool.{cases_order}
use Rattle.std.proofs.lemmas.List.{take-take}
use Rattle.std.proofs.lemmas.List.Sums.{sum_by-le, sum_by_more, sum_by_more_le, sum_by-take-le}
use Rattle.hl_addr.specs.Layout.{IsSlotCount}
use Rattle.hl_addr.specs.Slots.{HasSlot, slot_number}

-- the slots up to the end of a volume
pub take_next : (vs : List ℕ) (v : ℕ) → v < length vs → sum (take (v + 1) vs) ≡ sum (take v vs) + slice_index vs v
take_next vs v h = sum_by_more (λ x. x) vs v 0 h

-- no more slots stand before a volume than before a later one
pub take_later : (vs : List ℕ) (v w : ℕ) → v ≤ w → sum (take v vs) ≤ sum (take w vs)
take_later vs v w h = subst (λ (l : List ℕ). sum l ≤ sum (take w vs)) (take-take v w vs h) (sum_by-take-le (λ x. x) (take w vs) v)

-- a slot stands before the slots of each later volume
pub before_later : (vs : List ℕ) (v s w : ℕ) → HasSlot vs v s → v < w → sum (take v vs) + s < sum (take w vs)
before_later vs v s w has h = omega (arith, take_next vs v has.volume_exists, take_later vs (v + 1) w (omega arith), has.slot_exists)

-- a slot's number is below that of all
pub number_below : (vs : List ℕ) (v s : ℕ) → HasSlot vs v s → slot_number vs v s < sum vs
number_below vs v s has = omega (arith, sum_by_more_le (λ x. x) vs v 0 has.volume_exists, has.slot_exists)

-- two slots with one number are one
pub number_only : (vs : List ℕ) (v s w t : ℕ) → HasSlot vs v s → HasSlot vs w t → slot_number vs v s ≡ slot_number vs w t → (v ≡ w) × (s ≡ t)
number_only vs v s w t one other same =
    elim (cases_order v w) [
      | inl e ↦ (e, omega (arith, same, ap (λ (n : ℕ). sum (take n vs)) e))
      | inr (inl lt) ↦ absurd (omega (arith, same, before_later vs v s w one lt))
      | inr (inr gt) ↦ absurd (omega (arith, same, before_later vs w t v other gt))
    ]

-- a rack has not many slots
pub slots_few : (vs : List ℕ) → length vs ≤ 32 → All IsSlotCount vs → sum vs ≤ 131072
slots_few vs few each = omega (arith, sum_by-le (λ x. x) 4096 vs (λ k d h. (each k d h).1))
