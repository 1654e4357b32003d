-- What a slot of a volume holds.
use Rattle.std.specs.Prelude.{◌≡◌, ℕ, ◌<◌, ◌^◌, Bool, true, false, Option, Some, None}
use Rattle.hl_tseg.specs.declared.slot.Slot.{Slot}
use Rattle.hl_tseg.specs.declared.slot.Slot.TheVariants.{Free, Staged, Home, Spoilt}

abbrev pub is_free : Slot → Bool
is_free Free = true
is_free (Staged line serial) = false
is_free (Home serial) = false
is_free Spoilt = false

abbrev pub is_staged : Slot → Bool
is_staged Free = false
is_staged (Staged line serial) = true
is_staged (Home serial) = false
is_staged Spoilt = false

-- the serial of the segment that the slot holds, or is to hold
abbrev pub serial_of : Slot → Option ℕ
serial_of Free = None
serial_of (Staged line serial) = Some serial
serial_of (Home serial) = Some serial
serial_of Spoilt = None

-- the slot holds the segment of this serial, or is to hold it
abbrev pub HoldsSerial : Slot → ℕ → Type 0
HoldsSerial slot serial = serial_of slot ≡ Some serial

-- the slot's numbers have room in their fields
abbrev pub HasRoom : Slot → Type 0
HasRoom Free = Unit {0}
HasRoom (Staged line serial) = (line < 2 ^ 32) × (serial < 2 ^ 64)
HasRoom (Home serial) = serial < 2 ^ 64
HasRoom Spoilt = Unit {0}
