-- A shelf that the devices keep.
use Rattle.std.specs.Prelude.{◌≡◌, ◌⊎◌, ℕ, ◌<◌, List, get_or, Option, Some, IsSome, Contains}
use Rattle.std.specs.FinMap.{get}
use Rattle.hl_tseg.specs.declared.slot.Slot.{Slot}
use Rattle.hl_tseg.specs.declared.slot.Slot.TheVariants.{Free, Home}
use Rattle.hl_placed.specs.Blocks.{Shelf}
use Rattle.hl_tseg.specs.Slots.{serial_of}
use Rattle.hl_lines.specs.Lines.{segment_of}
use Rattle.hl_media.specs.declared.job.Carried.{Carried}
use Rattle.hl_media.specs.declared.job.JobNote.{JobNote}
use Rattle.hl_media.specs.declared.job.Carried.TheVariants.{Done}
use Rattle.hl_media.specs.declared.job.JobKind.TheVariants.{Copy}
use Rattle.hl_lines.specs.declared.state.LineState.{LineState}
use Rattle.hl_lines.specs.declared.state.LineState.TheVariants.{Empty}

-- a slot is home with a serial
abbrev pub IsHomeSlot : List Slot → ℕ → ℕ → Type 0
IsHomeSlot slots t serial = get_or slots t Free ≡ Home serial

-- a line holds the segment of a slot with a serial
pub record HasSerial (slots : List Slot) (lines : List LineState) (line serial : ℕ) : Type 0 where
  pub tseg : ℕ
  pub holds : segment_of (get_or lines line Empty) ≡ Some tseg
  pub serial_is : serial_of (get_or slots tseg Free) ≡ Some serial

-- a job that is out, as it is held: how it ended so far, and what its buffer has
pub record JobOut : Type 0 where
  pub note : JobNote
  pub carried : Option Carried
  pub buffer : List ℕ

-- The buffer of a copy has its segment; that of a fetch has it once that was carried, while its slot has the job's serial.
abbrev pub HasSegment : List Slot → JobOut → Type 0
HasSegment slots held = (held.note.kind ≡ Copy)
    ⊎ ((held.carried ≡ Some Done) × (serial_of (get_or slots held.note.tseg Free) ≡ Some held.note.serial))

-- Each content that a stop may leave of a Home slot, and each line as read, has the shelf's bytes.
pub record KeepsPlaces (may : ℕ → List ℕ → Type 0) (line_bytes : ℕ → List ℕ) (slots : List Slot) (lines : List LineState) (shelf : Shelf) : Type 0 where
  pub homes : (t serial : ℕ) → IsHomeSlot slots t serial → (bytes : List ℕ) → may t bytes → get shelf serial ≡ Some bytes
  pub cached : (line serial : ℕ) → HasSerial slots lines line serial → get shelf serial ≡ Some (line_bytes line)

-- each buffer of these jobs that has its segment has the shelf's bytes
abbrev pub KeepsBuffers : List Slot → List JobOut → Shelf → Type 0
KeepsBuffers slots jobs shelf = (held : JobOut) → Contains jobs held → HasSegment slots held → get shelf held.note.serial ≡ Some held.buffer

-- The shelf is kept by the slots and lines of a site, and by these jobs.
pub record KeepsShelf (may : ℕ → List ℕ → Type 0) (line_bytes : ℕ → List ℕ) (slots : List Slot) (lines : List LineState) (jobs : List JobOut) (shelf : Shelf) : Type 0 where
  pub places : KeepsPlaces may line_bytes slots lines shelf
  pub buffers : KeepsBuffers slots jobs shelf

-- each line's segment has a slot with a serial, and each serial is below the next one
pub record AreLined (slots : List Slot) (lines : List LineState) (next : ℕ) : Type 0 where
  pub there : (line t : ℕ) → segment_of (get_or lines line Empty) ≡ Some t → IsSome (serial_of (get_or slots t Free))
  pub below : (t serial : ℕ) → serial_of (get_or slots t Free) ≡ Some serial → serial < next
