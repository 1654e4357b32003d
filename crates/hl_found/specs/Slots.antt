-- What may stand in slots.
use Rattle.std.specs.Prelude.{◌≢◌, ℕ, ◌<◌, Option, Some, None}
use Rattle.hl_tseg.specs.declared.slot.Slot.{Slot}
use Rattle.hl_tseg.specs.declared.slot.Slot.TheVariants.{Free, Staged, Home, Spoilt}
use Rattle.hl_tseg.specs.Slots.{serial_of}

-- the line of a slot that is staged
abbrev pub line_of : Slot → Option ℕ
line_of Free = None
line_of (Staged line serial) = Some line
line_of (Home serial) = None
line_of Spoilt = None

-- the line is one of the disk, and the serial is below the next one
abbrev pub IsPossible : ℕ → ℕ → Slot → Type 0
IsPossible lines next Free = Unit {0}
IsPossible lines next (Staged line serial) = (line < lines) × (serial < next)
IsPossible lines next (Home serial) = serial < next
IsPossible lines next Spoilt = Unit {0}

-- they aren't one number
abbrev pub Differ : Option ℕ → Option ℕ → Type 0
Differ None other = Unit {0}
Differ (Some one) None = Unit {0}
Differ (Some one) (Some other) = one ≢ other

-- two slots share neither a line nor a serial
abbrev pub AreTwo : Slot → Slot → Type 0
AreTwo one other = Differ (line_of one) (line_of other) × Differ (serial_of one) (serial_of other)
