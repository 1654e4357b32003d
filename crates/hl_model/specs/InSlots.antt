-- Away blocks, and the slots that hold their segments.
use Rattle.std.specs.Prelude.{◌≡◌, ℕ, List, get_or, Some}
use Rattle.hl_placed.specs.Blocks.{SerialsAre}
use Rattle.hl_placed.specs.Placed.{EachFile}
use Rattle.hl_tseg.specs.Slots.{serial_of}
use Rattle.hl_tseg.specs.declared.slot.Slot.{Slot}
use Rattle.hl_tseg.specs.declared.slot.Slot.TheVariants.{Free}
use Rattle.hl_model.specs.Site.{SiteState}

-- a slot holds the segment with this serial
abbrev pub IsInSlot : List Slot → ℕ → Type 0
IsInSlot slots serial = (t : ℕ) × (serial_of (get_or slots t Free) ≡ Some serial)

-- each away block is in a segment that a slot holds
abbrev pub AreInSlots : SiteState → Type 0
AreInSlots s = EachFile (SerialsAre (IsInSlot s.slots)) s.tree
