-- Slots that may not be as they are.
use Rattle.std.specs.Prelude.{◌≡◌, ◌⊎◌, ℕ, ◌+◌, ◌<◌, ◌≤◌, List, length, count_by, Option, Some, None}
use Rattle.std.specs.List.{slice_index_or}
use Rattle.hl_addr.specs.Layout.{Layout}
use Rattle.hl_tseg.specs.declared.slot.Slot.{Slot}
use Rattle.hl_tseg.specs.declared.slot.Slot.TheVariants.{Free, Staged, Home, Spoilt}
use Rattle.hl_tseg.specs.SlotTable.{SlotTable, slot_at}
use Rattle.hl_tseg.specs.Slots.{is_staged}
use Rattle.hl_nodes.specs.Breaks.{IsOffSlot}
use Rattle.hl_nodes.specs.Sound.{AreSlots}

-- the line of a slot that is staged
abbrev pub line_of : Slot → Option ℕ
line_of Free = None
line_of (Staged line serial) = Some line
line_of (Home serial) = None
line_of Spoilt = None

-- the line isn't one of the disk, or the serial isn't below the next one
abbrev pub IsOffLimits : ℕ → ℕ → Slot → Type 0
IsOffLimits lines next Free = ⊥
IsOffLimits lines next (Staged line serial) = (lines ≤ line) ⊎ (next ≤ serial)
IsOffLimits lines next (Home serial) = next ≤ serial
IsOffLimits lines next Spoilt = ⊥

-- a staged slot, where fewer than twelve lines are left over
pub record IsTooMany (lines : ℕ) (slots : List Slot) (n : ℕ) : Type 0 where
  pub many : lines < count_by is_staged slots + 12
  pub within : n < length slots
  pub line : ℕ
  pub serial : ℕ
  pub staged : slice_index_or slots n Free ≡ Staged line serial

-- a slot that is off, or that all are possible
abbrev pub TellsSlot : Layout → SlotTable → ℕ → Option ℕ → Type 0
TellsSlot g t next None = AreSlots g t next
TellsSlot g t next (Some n) = (n < length t.slots) × IsOffSlot g t next n

-- the line of each staged slot is one of the disk
abbrev pub HaveLines : Layout → SlotTable → Type 0
HaveLines g t = (n line serial : ℕ) → slot_at t n ≡ Staged line serial → line < g.lines
