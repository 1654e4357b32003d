-- The slots of all volumes, and which volumes are full.
use Rattle.std.specs.Prelude.{◌+◌, ◌++◌, take, drop, ◌≡◌, ℕ, Bool, false, List, length, sum, replicate, slice_get, Some, All}
use Rattle.std.specs.List.{slice_index_or}
use Rattle.hl_addr.specs.Layout.{Layout, IsVolumeCount, IsSlotCount}
use Rattle.hl_addr.specs.Slots.{HasSlot, slot_number}
use Rattle.hl_tseg.specs.declared.slot.Slot.{Slot}
use Rattle.hl_tseg.specs.declared.slot.Slot.TheVariants.{Free}
use Rattle.hl_tseg.specs.Slots.{HasRoom}

-- the number of slots of each volume, what each slot holds, volume 0 first, and whether each volume is full
pub record SlotTable : Type 0 where
  pub volumes : List ℕ
  pub slots : List Slot
  pub full : List Bool

-- a rack within the limits, with one entry for each slot and each volume, whose numbers have room in their fields
pub record IsSlotTable (t : SlotTable) : Type 0 where
  pub volume_count : IsVolumeCount (length t.volumes)
  pub slot_counts : All IsSlotCount t.volumes
  pub each_slot : length t.slots ≡ sum t.volumes
  pub each_volume : length t.full ≡ length t.volumes
  pub room : All HasRoom t.slots

-- a table whose slots are all free, on open volumes
abbrev pub fresh : Layout → SlotTable
fresh g = record { volumes = g.volumes; slots = replicate (sum g.volumes) Free; full = replicate (length g.volumes) false }

-- a list with others in place from one on
abbrev pub with_run : {A : Type 0} → List A → ℕ → List A → List A
with_run xs from run = take from xs ++ (run ++ drop (from + length run) xs)

-- what the slot of this number holds; a slot that isn't there is as one that is free
abbrev pub slot_at : SlotTable → ℕ → Slot
slot_at t number = slice_index_or t.slots number Free

-- the slot of this number is free, on a volume that isn't full
pub record IsOpen (t : SlotTable) (number : ℕ) : Type 0 where
  pub volume : ℕ
  pub place : ℕ
  pub exists : HasSlot t.volumes volume place
  pub numbered : number ≡ slot_number t.volumes volume place
  pub free : slice_get t.slots number ≡ Some Free
  pub not_full : slice_get t.full volume ≡ Some false
