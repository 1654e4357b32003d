-- The segment of the slot that an address lies in.
use Rattle.std.proofs.Common.{◌≡◌, ◌≢◌, ◌<◌, ◌≤◌, inl, inr, ℕ, length, Some, None, sym, ◌∙◌, ap, subst}
use Rattle.std.specs.Prelude.{slice_get}
use Rattle.std.proofs.lemmas.Bool.{cases_lt}
use Rattle.std.proofs.lemmas.List.{get_or_past}
use Rattle.std.proofs.lemmas.Option.{get_or_from_slice_get}
use Rattle.hl_addr.specs.Layout.{Layout, data_max}
use Rattle.hl_addr.specs.Place.{IsAt}
use Rattle.hl_addr.specs.Slots.{slot_number}
use Rattle.hl_addr.specs.declared.place.Place.{Place}
use Rattle.hl_addr.specs.declared.place.Place.TheVariants.{Nothing, Tertiary}
use Rattle.hl_tseg.specs.SlotTable.{SlotTable, slot_at}
use Rattle.hl_tseg.specs.Slots.{HoldsSerial, serial_of}
use Rattle.hl_tseg.specs.declared.slot.Slot.{Slot}
use Rattle.hl_tseg.specs.declared.slot.Slot.TheVariants.{Free}
use Rattle.hl_nodes.specs.Blocks.{LiesAway}

no_serial : {s : ℕ} → None ≡ Some s → ⊥
no_serial e = cc

same_some : {s t : ℕ} → Some s ≡ Some t → s ≡ t
same_some e = cc

same_volume : {v s b w t d : ℕ} → Tertiary v s b ≡ Tertiary w t d → v ≡ w
same_volume e = cc

same_slot : {v s b w t d : ℕ} → Tertiary v s b ≡ Tertiary w t d → s ≡ t
same_slot e = cc

same_block : {v s b w t d : ℕ} → Tertiary v s b ≡ Tertiary w t d → b ≡ d
same_block e = cc

-- a slot that holds a segment is there
held_there : (t : SlotTable) (n serial : ℕ) → HoldsSerial (slot_at t n) serial → n < length t.slots
held_there t n serial holds = elim (cases_lt n (length t.slots)) [
  | inl lt ↦ lt
  | inr ge ↦ absurd (no_serial (sym (ap serial_of (get_or_past t.slots n Free ge)) ∙ holds))
]

-- the address of a slot isn't the one that stands for none
pub not_nothing : (layout : Layout) (addr : ℕ) (place : Place) → ((p : Place) → IsAt layout addr p → p ≡ place) → (volume slot block : ℕ) → place ≡ Tertiary volume slot block → addr ≢ 4294967295
not_nothing layout addr place only volume slot block is none = apart (only Nothing none ∙ is)
  where
    apart : Nothing ≡ Tertiary volume slot block → ⊥
    apart e = cc

module _ (g layout : Layout) (t slots : SlotTable) (addr serial position : ℕ) (lies : LiesAway g t addr serial position) (layout_is : layout ≡ g) (slots_is : slots ≡ t) (place : Place) (only : (p : Place) → IsAt layout addr p → p ≡ place) where
  pub place_is : Tertiary lies.volume lies.slot position ≡ place
  place_is = only (Tertiary lies.volume lies.slot position) (subst (λ (l : Layout). IsAt l addr (Tertiary lies.volume lies.slot position)) (sym layout_is) lies.place)

  module _ (volume slot block : ℕ) (is : place ≡ Tertiary volume slot block) where
    same : Tertiary lies.volume lies.slot position ≡ Tertiary volume slot block
    same = place_is ∙ is

    module _ (n : ℕ) (n_is : n ≡ slot_number layout.volumes volume slot) where
      number : slot_number g.volumes lies.volume lies.slot ≡ n
      number = ap (λ (v : ℕ). slot_number g.volumes v lies.slot) (same_volume same) ∙ ap (slot_number g.volumes volume) (same_slot same) ∙ ap (λ (l : Layout). slot_number l.volumes volume slot) (sym layout_is) ∙ sym n_is

      holds_there : HoldsSerial (slot_at slots n) serial
      holds_there = subst (λ (x : SlotTable). HoldsSerial (slot_at x n) serial) (sym slots_is) (subst (λ (k : ℕ). HoldsSerial (slot_at t k) serial) number lies.holds)

      pub slot_there : n < length slots.slots
      slot_there = held_there slots n serial holds_there

      module _ (held : Slot) (held_is : slice_get slots.slots n ≡ Some held) where
        pub holds : HoldsSerial held serial
        holds = subst (λ (x : Slot). HoldsSerial x serial) (get_or_from_slice_get slots.slots n held Free held_is) holds_there

        -- it is the segment that the slot holds, at that block
        pub same_segment : (s : ℕ) → serial_of held ≡ Some s → (serial ≡ s) × (position ≡ block)
        same_segment s s_is = (same_some (sym holds ∙ s_is), same_block same)

        -- the address lies in the segment that the slot holds
        pub lies_in : (s : ℕ) → serial_of held ≡ Some s → LiesAway g t addr s block
        lies_in s s_is = record {
          volume = lies.volume;
          slot = lies.slot;
          place = subst (λ (b : ℕ). IsAt g addr (Tertiary lies.volume lies.slot b)) (same_block same) lies.place;
          holds = subst (HoldsSerial (slot_at t (slot_number g.volumes lies.volume lies.slot))) (same_some (sym holds ∙ s_is)) lies.holds;
          low = subst (λ (b : ℕ). 1 ≤ b) (same_block same) lies.low;
          high = subst (λ (b : ℕ). b ≤ data_max g) (same_block same) lies.high;
        }
