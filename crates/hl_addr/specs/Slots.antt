-- The slots of all volumes in one row.
use Rattle.std.specs.Prelude.{ℕ, ◌+◌, ◌-◌, ◌<◌, List, [], ◌∷◌, nat_lt, if◌then◌else◌, length, sum, take, slice_index}

-- the volume is there and has the slot
pub record HasSlot (volumes : List ℕ) (volume slot : ℕ) : Type 0 where
  pub volume_exists : volume < length volumes
  pub slot_exists : slot < slice_index volumes volume

-- the number of a slot among all: the slots of the volumes before, and its place in its own
abbrev pub slot_number : List ℕ → ℕ → ℕ → ℕ
slot_number volumes volume slot = sum (take volume volumes) + slot

-- the volume of the slot with this number among all; one past the last volume where there is no such slot
abbrev pub volume_of : List ℕ → ℕ → ℕ
volume_of [] number = 0
volume_of (slots ∷ volumes) number = if nat_lt number slots then 0 else 1 + volume_of volumes (number - slots)

-- its place among the slots of that volume
abbrev pub place_of : List ℕ → ℕ → ℕ
place_of [] number = number
place_of (slots ∷ volumes) number = if nat_lt number slots then number else place_of volumes (number - slots)
