-- The lines of the disk, and where the blocks of a file lie on it.
use Rattle.std.specs.Prelude.{◌≡◌, ◌⊎◌, ℕ, ◌+◌, ◌*◌, ◌≤◌, List, [], ◌∷◌, get_or}
use Rattle.std.specs.FinMap.{insert}
use Rattle.hl_media.specs.History.{Image, area}
use Rattle.hl_addr.specs.Layout.{Layout}
use Rattle.hl_addr.specs.Place.{IsAt}
use Rattle.hl_addr.specs.Slots.{slot_number}
use Rattle.hl_addr.specs.declared.place.Place.TheVariants.{Tertiary}
use Rattle.hl_tseg.specs.SlotTable.{SlotTable, slot_at}
use Rattle.hl_tseg.specs.declared.slot.Slot.{Slot}
use Rattle.hl_tseg.specs.declared.slot.Slot.TheVariants.{Free, Staged, Home, Spoilt}
use Rattle.hl_placed.specs.Blocks.{Shelf}
use Rattle.hl_image.specs.Places.{InLog}

-- the first block of a line
abbrev pub line_start : Layout → ℕ → ℕ
line_start g line = g.k * (g.log + 1 + line)

-- the bytes of a line
abbrev pub line_bytes : Layout → Image → ℕ → List ℕ
line_bytes g image line = area image (line_start g line) g.k

-- the pointer names a block of a staged segment, which lies in the slot's line at this block of the disk
pub record InStagedLine (g : Layout) (slots : SlotTable) (pointer block : ℕ) : Type 0 where
  pub volume : ℕ
  pub slot : ℕ
  pub position : ℕ
  pub place : IsAt g pointer (Tertiary volume slot position)
  pub line : ℕ
  pub serial : ℕ
  pub staged : slot_at slots (slot_number g.volumes volume slot) ≡ Staged line serial
  pub block_is : block ≡ line_start g line + position

-- what the pointer names lies at this block of the disk, in the log or in a staged line
abbrev pub OnDisk : Layout → SlotTable → ℕ → ℕ → Type 0
OnDisk g slots pointer block = (InLog g pointer × (block ≡ pointer)) ⊎ InStagedLine g slots pointer block

-- each byte from a place on is zero
abbrev pub IsZeroFrom : ℕ → List ℕ → Type 0
IsZeroFrom from bytes = (k : ℕ) → from ≤ k → get_or bytes k 0 ≡ 0

-- the shelf with the segments that are staged, as the image's lines have them
abbrev pub with_staged : Layout → Image → Shelf → List Slot → Shelf
with_staged g image shelf [] = shelf
with_staged g image shelf (Staged line serial ∷ slots) = insert (with_staged g image shelf slots) serial (line_bytes g image line)
with_staged g image shelf (Home serial ∷ slots) = with_staged g image shelf slots
with_staged g image shelf (Free ∷ slots) = with_staged g image shelf slots
with_staged g image shelf (Spoilt ∷ slots) = with_staged g image shelf slots
