-- What an address names, decided.
use Rattle.std.proofs.Common.{◌≡◌, inl, inr, ⊎_elim, ℕ, ◌/◌, ◌%◌, ◌<◌, ◌≤◌, length, refl, sym, ap, ◌∙◌, subst}
use Rattle.std.specs.Prelude.{slice_index, Option, Some, None}
use Rattle.hl_addr.specs.Layout.{Layout, IsWithinLimits, data_max}
use Rattle.hl_addr.specs.Place.{slot_segment}
use Rattle.hl_addr.specs.Slots.{HasSlot, slot_number}
use Rattle.hl_addr.proofs.PlaceLemmas.{slot_only}
use Rattle.hl_tseg.specs.SlotTable.{SlotTable, slot_at}
use Rattle.hl_tseg.specs.Slots.{serial_of, HoldsSerial}
use Rattle.hl_tseg.specs.declared.slot.Slot.{Slot}
use Rattle.hl_image.specs.Places.{InLog}
use Rattle.hl_nodes.specs.Blocks.{LiesAway}
use Rattle.hl_nodes.proofs.Deciding.{Decided, both, alike, is_equal, is_at_most, some_below}

pub in_log : (g : Layout) (address : ℕ) → Decided (InLog g address)
in_log g address = alike
    (λ (low, high). record { segment = address / g.k; block = address % g.k; place = (low, high, record { segment_is = refl; block_is = refl }) })
    (λ is. (subst (λ (n : ℕ). 1 ≤ n) (sym is.place.2.segment_is) is.place.0, subst (λ (n : ℕ). n ≤ g.log) (sym is.place.2.segment_is) is.place.1))
    (both (is_at_most 1 (address / g.k)) (is_at_most (address / g.k) g.log))

module _ (g : Layout) (address : ℕ) where
  abbrev InSlot : ℕ → ℕ → Type 0
  InSlot volume slot = HasSlot g.volumes volume slot × (address / g.k ≡ slot_segment g volume slot)

  has_slot : (volume slot : ℕ) → volume < length g.volumes → slot < slice_index g.volumes volume → HasSlot g.volumes volume slot
  has_slot volume slot low high = record { volume_exists = low; slot_exists = high }

  -- some slot has the address, or none has
  pub in_slot : Decided ((volume : ℕ) × (volume < length g.volumes) × ((slot : ℕ) × (slot < slice_index g.volumes volume) × (address / g.k ≡ slot_segment g volume slot)))
  in_slot = some_below (λ volume. (slot : ℕ) × (slot < slice_index g.volumes volume) × (address / g.k ≡ slot_segment g volume slot)) (length g.volumes)
      (λ volume low. some_below (λ slot. address / g.k ≡ slot_segment g volume slot) (slice_index g.volumes volume) (λ slot high. is_equal (address / g.k) (slot_segment g volume slot)))

-- a slot holds some serial, or none
pub holds_some : (slot : Slot) → Decided ((serial : ℕ) × HoldsSerial slot serial)
holds_some slot = by (serial_of slot) refl
  where
    by : (o : Option ℕ) → serial_of slot ≡ o → Decided ((serial : ℕ) × HoldsSerial slot serial)
    by None e = inr (λ x. (let f = sym e ∙ x.1 in cc))
    by (Some serial) e = inl (serial, e)

-- a block of the segment that some slot holds
module _ (g : Layout) (limits : IsWithinLimits g) (slots : SlotTable) (address : ℕ) where
  abbrev Away : Type 0
  Away = (serial position : ℕ) × LiesAway g slots address serial position

  -- where the address is one of the slot
  away_there : (volume slot : ℕ) → HasSlot g.volumes volume slot → address / g.k ≡ slot_segment g volume slot → Decided Away
  away_there volume slot has at = alike
      (λ (held, (low, high)). (held.0, address % g.k, record { volume = volume; slot = slot; place = (has, record { segment_is = at; block_is = refl }); holds = held.1; low = low; high = high }))
      (λ x. (
        (let one = slot_only g limits x.2.volume x.2.slot volume slot x.2.place.0 has (sym x.2.place.1.segment_is ∙ at) in
            let number : slot_number g.volumes x.2.volume x.2.slot ≡ slot_number g.volumes volume slot = ap (λ (v : ℕ). slot_number g.volumes v x.2.slot) one.0 ∙ ap (λ (s : ℕ). slot_number g.volumes volume s) one.1 in
            (x.0, subst (λ (n : ℕ). HoldsSerial (slot_at slots n) x.0) number x.2.holds)),
        (subst (λ (n : ℕ). 1 ≤ n) (sym x.2.place.1.block_is) x.2.low, subst (λ (n : ℕ). n ≤ data_max g) (sym x.2.place.1.block_is) x.2.high),
      ))
      (both (holds_some (slot_at slots (slot_number g.volumes volume slot))) (both (is_at_most 1 (address % g.k)) (is_at_most (address % g.k) (data_max g))))

  pub away : Decided Away
  away = ⊎_elim
      (λ (volume, low, (slot, high, at)). away_there volume slot (has_slot g address volume slot low high) at)
      (λ never. inr (λ x. never (x.2.volume, x.2.place.0.volume_exists, (x.2.slot, x.2.place.0.slot_exists, x.2.place.1.segment_is))))
      (in_slot g address)
