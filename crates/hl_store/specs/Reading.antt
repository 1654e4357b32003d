-- What lies at an address of the disk.
use Rattle.std.specs.Prelude.{◌≡◌, ◌⊎◌, ℕ, ◌+◌, List, Option, Some, None}
use Rattle.hl_media.specs.History.{History, MachineState}
use Rattle.hl_media.specs.Moments.{Now}
use Rattle.hl_media.specs.Causes.{Rose}
use Rattle.hl_addr.specs.Layout.{Layout}
use Rattle.hl_addr.specs.Place.{IsAt}
use Rattle.hl_addr.specs.Slots.{slot_number}
use Rattle.hl_addr.specs.declared.place.Place.TheVariants.{Tertiary}
use Rattle.hl_image.specs.Places.{InLog}
use Rattle.hl_lines.specs.Lines.{line_with}
use Rattle.hl_lines.specs.LineTable.{Lines}
use Rattle.hl_log.specs.Logs.{LogValue}
use Rattle.hl_nodes.specs.Lines.{line_start}
use Rattle.hl_store.specs.declared.answers.Found.{Found}
use Rattle.hl_store.specs.declared.answers.Found.TheVariants as found
use Rattle.hl_store.specs.declared.answers.Placed.{Placed}
use Rattle.hl_store.specs.declared.answers.Placed.TheVariants as placed

-- the address is that of a block of the segment with this number
pub record IsInSlot (g : Layout) (addr tseg block : ℕ) : Type 0 where
  pub volume : ℕ
  pub slot : ℕ
  pub place : IsAt g addr (Tertiary volume slot block)
  pub number : tseg ≡ slot_number g.volumes volume slot

-- these bytes stand in the line that holds the segment in which the address lies
pub record StandsInLine (g : Layout) (lines : Lines) (s : MachineState) (addr : ℕ)
    (bytes : List ℕ) : Type 0 where
  pub tseg : ℕ
  pub block : ℕ
  pub lies : IsInSlot g addr tseg block
  pub line : ℕ
  pub held : line_with lines.states tseg ≡ Some line
  pub bytes_are : s.content (line_start g line + block) ≡ bytes

-- these bytes stand at the address: in the log, or in the line that holds its segment
abbrev pub StandsAt : Layout → Lines → MachineState → ℕ → List ℕ → Type 0
StandsAt g lines s addr bytes =
    (InLog g addr × (s.content addr ≡ bytes)) ⊎ StandsInLine g lines s addr bytes

module _ {M : Type 0} where
  -- Where an address lies.
  abbrev pub IsWhereFound : LogValue M → ℕ → Placed → Type 0
  IsWhereFound log addr placed.Hole = ⊥
  IsWhereFound log addr placed.Here = InLog log.geometry addr
  IsWhereFound log addr (placed.Away tseg block) = IsInSlot log.geometry addr tseg block
  IsWhereFound log addr placed.DiskFault = ⊥
  IsWhereFound log addr placed.Memory = Unit {0}

  -- no line holds the segment in which the address lies
  pub record IsOutAt (log : LogValue M) (lines : Lines) (addr tseg : ℕ) : Type 0 where
    pub block : ℕ
    pub lies : IsInSlot log.geometry addr tseg block
    pub none : line_with lines.states tseg ≡ None

  -- What was found at an address.
  abbrev pub FindsAt : (M → Option History) → (M → ℕ) → LogValue M → LogValue M → Lines → ℕ
      → List ℕ → Found → Type 0
  FindsAt history faults old new lines addr out found.Bytes =
      Now (history old.machine) (λ s. StandsAt old.geometry lines s addr out)
  FindsAt history faults old new lines addr out found.Hole = ⊥
  FindsAt history faults old new lines addr out (found.Away tseg) = IsOutAt old lines addr tseg
  FindsAt history faults old new lines addr out found.DiskFault =
      Rose (faults old.machine) (faults new.machine)
  FindsAt history faults old new lines addr out found.Memory = Unit {0}
