-- The entries of the tables as bytes.
use Rattle.std.specs.Prelude.{ℕ, ◌+◌, ◌==◌, if◌then◌else◌, Bool, List, ◌++◌}
use Rattle.hl_bytes.specs.Fields.{le32, le64, u32_at, u64_at}
use Rattle.hl_tseg.specs.declared.slot.Slot.{Slot}
use Rattle.hl_tseg.specs.declared.slot.Slot.TheVariants.{Free, Staged, Home, Spoilt}

-- the number that stands for a flag, and its bytes
abbrev pub flag_code : Bool → ℕ
flag_code flag = if flag then 1 else 0

unfoldable pub flag_bytes : Bool → List ℕ
flag_bytes flag = le32 (flag_code flag)

-- the flag that stands at a place, if any
unfoldable pub flag_at : ℕ → List ℕ → Bool
flag_at at bytes = u32_at at bytes == 1

-- the number that stands for what a slot holds, its line and its serial, 0 where it has none
abbrev pub state_field : Slot → ℕ
state_field Free = 0
state_field (Staged line serial) = 1
state_field (Home serial) = 2
state_field Spoilt = 3

abbrev pub line_field : Slot → ℕ
line_field (Staged line serial) = line
line_field Free = 0
line_field (Home serial) = 0
line_field Spoilt = 0

abbrev pub serial_field : Slot → ℕ
serial_field (Staged line serial) = serial
serial_field (Home serial) = serial
serial_field Free = 0
serial_field Spoilt = 0

-- the 16 bytes of a slot
unfoldable pub slot_bytes : Slot → List ℕ
slot_bytes slot = (le32 (state_field slot) ++ le32 (line_field slot)) ++ le64 (serial_field slot)

-- the slot of these numbers, if any
abbrev pub slot_in_fields : ℕ → ℕ → ℕ → Slot
slot_in_fields state line serial =
    if state == 1 then Staged line serial else (if state == 2 then Home serial else (if state == 3 then Spoilt else Free))

-- the slot whose fields stand at a place, if any
unfoldable pub slot_entry_at : ℕ → List ℕ → Slot
slot_entry_at at bytes = slot_in_fields (u32_at at bytes) (u32_at (at + 4) bytes) (u64_at (at + 8) bytes)
