-- A checkpoint: the old record with its chain, or the new one with its tables, at every moment.
use Rattle.std.specs.Prelude.{◌≡◌, ◌⊎◌, ℕ, ◌+◌, ◌-◌, ◌<◌, ◌≤◌, ◌^◌, min, List, [], length, map, Contains, Option, Some, MatchOption, false}
use Rattle.hl_media.specs.History.{Image, MachineState, IsUntouched}
use Rattle.hl_addr.specs.Layout.{Layout}
use Rattle.hl_super.specs.declared.record.Record.{Record}
use Rattle.hl_summary.specs.declared.parts.Summary.{Summary}
use Rattle.hl_image.specs.declared.place.LogPlace.{LogPlace}
use Rattle.hl_image.specs.Chain.{Walk, IsChain, cut, IsCutChain}
use Rattle.hl_image.specs.Newest.{IsNewest, home_of, number_of, start_of}
use Rattle.hl_log.specs.declared.position.Position.{Position}
use Rattle.hl_log.specs.declared.piece.Piece.{Piece}
use Rattle.hl_log.specs.declared.checkpoint.Draft.{Draft}
use Rattle.hl_log.specs.Free.{IsFree}
use Rattle.hl_log.specs.Cut.{AreCut, HasClean, IsPlan, addresses, place_behind, summaries}
use Rattle.hl_log.specs.Loads.{table_records}
use Rattle.hl_log.specs.Rest.{IsAtRest, Has, StopLeaves}
use Rattle.hl_log.specs.Units.{Numbered, GoesOn}

-- behind a new record the chain starts at the head
abbrev pub restarted : Position → Position
restarted p =
    record { start = p.head; first = p.serial; head = p.head; serial = p.serial; fresh = false }

-- the newest record is the old one with its chain, or the new one with none
abbrev pub HasEither : Layout → Position → Option Record → Record → List Summary → Image → Type 0
HasEither g p old new parts image = (IsNewest g image old × Has g p parts image)
    ⊎ (IsNewest g image (Some new) × IsChain g image p.head p.serial [])

-- no block but this one and those of writes that were pending differs from what reads gave at first
abbrev pub KeepsBut : ℕ → MachineState → Image → Type 0
KeepsBut at first image = (k : ℕ) → (k ≡ at → ⊥) → IsUntouched first.pending k
    → image k ≡ first.content k

-- at each moment of writing the next record
abbrev pub Records : Layout → Position → Record → MachineState → MachineState → Type 0
Records g p new first s = (clean : List ℕ) (parts : List Summary) (old : Option Record)
    → IsAtRest g p clean parts first → IsNewest g first.content old → new.number ≡ number_of old + 1
    → StopLeaves g p
    (λ image. HasEither g p old new parts image × KeepsBut (home_of new.number) first image) s

abbrev pub HasRecorded : Layout → Position → Record → MachineState → MachineState → Type 0
HasRecorded g p new first s = (clean : List ℕ) (parts : List Summary) (old : Option Record)
    → IsAtRest g p clean parts first → IsNewest g first.content old → new.number ≡ number_of old + 1
    → IsAtRest g (restarted p) clean [] s × IsNewest g s.content (Some new)
    × KeepsBut (home_of new.number) first s.content

-- what a record is to have besides its serial, its place and its tables: the number of the record before it, the next
-- tertiary serial, the format, and the slots of each volume
pub record Given : Type 0 where
  pub number : ℕ
  pub tseg_serial : ℕ
  pub format : ℕ
  pub volumes : List ℕ

abbrev pub drafted : Draft → Given
drafted d = record {
  number = d.number;
  tseg_serial = d.tseg_serial;
  format = d.format;
  volumes = d.volumes;
}

-- the draft of so many table blocks is what was given, with their addresses; none exactly where there are too few clean
-- segments
abbrev pub Drafts : Layout → LogPlace → List ℕ → ℕ → Given → Option Draft → Type 0
Drafts g head clean tables given draft = MatchOption draft (¬ HasClean g head clean tables 0)
    (λ d. IsPlan g head clean tables 0 d.tables × (drafted d ≡ given))

-- behind the record of this number, as the caller gives them
abbrev pub given_by : ℕ → Record → Given
given_by number rec = record {
  number = number;
  tseg_serial = rec.tseg_serial;
  format = rec.format;
  volumes = rec.volumes;
}

-- what the caller gives is of the site
pub record IsOf (g : Layout) (rec : Record) : Type 0 where
  pub tseg_serial : 1 ≤ rec.tseg_serial
  pub format : rec.format ≡ 1
  pub volumes : rec.volumes ≡ g.volumes

-- the record of a draft, whose chain starts at this place with this serial
abbrev pub next_record : Draft → LogPlace → ℕ → Record
next_record d head serial = record {
  number = min (d.number + 1) (2 ^ 64 - 1);
  serial = serial;
  seg = head.seg;
  block = head.block;
  tseg_serial = d.tseg_serial;
  format = d.format;
  volumes = d.volumes;
  tables = d.tables;
}

-- behind a record
abbrev pub restarted_at : Record → Position
restarted_at r = record {
  start = start_of r;
  first = r.serial;
  head = start_of r;
  serial = r.serial;
  fresh = false;
}

-- the next record: with the next number, and with what was given
pub record IsNextRecord (d : Given) (new : Record) : Type 0 where
  pub number_is : new.number ≡ d.number + 1
  pub tseg_serial : new.tseg_serial ≡ d.tseg_serial
  pub format : new.format ≡ d.format
  pub volumes : new.volumes ≡ d.volumes

-- what is free from there on was free before, and is no block of the tables that the record names
pub record FreesLess (g : Layout) (p : Position) (clean : List ℕ) (q : Position) (rest : List ℕ)
    (new : Record) : Type 0 where
  pub was_free : (k : ℕ) → IsFree g q.head rest k → IsFree g p.head clean k
  pub no_table : (k : ℕ) → Contains new.tables k → IsFree g q.head rest k → ⊥

-- The record names the addresses of the parts that the tables are cut into, and its chain starts where the last of them
-- goes on, with the serial behind theirs. The parts and these table blocks stand there.
pub record HasTables (g : Layout) (p : Position) (clean rest : List ℕ) (tables : List (List ℕ))
    (new : Record) (pieces : List Piece) (image : Image) : Type 0 where
  pub are_cut : AreCut g p.head clean (length tables) 0 pieces rest
  pub named : new.tables ≡ addresses g pieces
  pub start_is : start_of new ≡ place_behind p.head pieces
  pub serial_is : new.serial ≡ p.serial + length pieces
  pub frees : FreesLess g p clean (restarted_at new) rest new
  pub walk : Walk g image p.head p.serial
      (summaries false p.serial (table_records (length tables)) [] pieces)
  pub blocks : map image new.tables ≡ tables

-- the new record with its table blocks, and an empty chain
pub record HasNew (g : Layout) (p : Position) (clean : List ℕ) (d : Given) (tables : List (List ℕ))
    (new : Record) (image : Image) : Type 0 where
  pub next : IsNextRecord d new
  pub newest : IsNewest g image (Some new)
  pub chain : IsCutChain g image (start_of new) new.serial []
  pub tables_stand : (pieces : List Piece) × (rest : List ℕ)
      × HasTables g p clean rest tables new pieces image

-- The record of a checkpoint of so many table blocks, whose parts leave these clean segments: it has the next number and
-- what was given, names the addresses of the blocks, and its chain starts where the log goes on behind the parts.
pub record IsRecordBehind (g : Layout) (p : Position) (clean rest : List ℕ) (d : Given) (count : ℕ)
    (new : Record) : Type 0 where
  pub number_is : new.number ≡ min (d.number + 1) (2 ^ 64 - 1)
  pub tseg_serial : new.tseg_serial ≡ d.tseg_serial
  pub format : new.format ≡ d.format
  pub volumes : new.volumes ≡ d.volumes
  pub goes_on : GoesOn g p clean count 0 (start_of new) new.serial rest
  pub named : new.tables ≡ addresses g goes_on.pieces
  pub frees : FreesLess g p clean (restarted_at new) rest new

-- the old record with its cut chain, or the new one
abbrev pub HasCheckpoint : Layout → Position → List ℕ → Option Record → Given → List (List ℕ)
    → List Summary → Image → Type 0
HasCheckpoint g p clean old d tables parts image =
    (IsNewest g image old × IsCutChain g image p.start p.first parts)
    ⊎ ((new : Record) × HasNew g p clean d tables new image)

-- no block differs but those that are free, the two of the records, and those of writes that were pending
abbrev pub KeepsRest : Layout → Position → List ℕ → MachineState → Image → Type 0
KeepsRest g p clean first image = (k : ℕ) → (IsFree g p.head clean k → ⊥) → (k ≡ 1 → ⊥)
    → (k ≡ 2 → ⊥) → IsUntouched first.pending k → image k ≡ first.content k

-- the log is at rest behind the cut chain of the newest record, and the next numbers have room in 64 bits
pub record IsReady (g : Layout) (p : Position) (clean : List ℕ) (d : Given) (count : ℕ)
    (parts : List Summary) (old : Option Record) (first : MachineState) : Type 0 where
  pub at_rest : IsAtRest g p clean parts first
  pub closed : cut parts ≡ parts
  pub newest : IsNewest g first.content old
  pub number_is : number_of old ≡ d.number
  pub numbered : Numbered g p clean count 0
  pub next_number : d.number + 1 < 2 ^ 64

-- at each moment of a checkpoint
abbrev pub Checkpoints : Layout → Position → List ℕ → Given → List (List ℕ) → MachineState
    → MachineState → Type 0
Checkpoints g p clean d tables first s = (parts : List Summary) (old : Option Record)
    → IsReady g p clean d (length tables) parts old first
    → StopLeaves g p
    (λ image. HasCheckpoint g p clean old d tables parts image × KeepsRest g p clean first image) s

-- after a checkpoint, with this record
abbrev pub HasCheckpointed : Layout → Position → List ℕ → Given → List (List ℕ) → Position → List ℕ
    → Record → MachineState → MachineState → Type 0
HasCheckpointed g p clean d tables q rest new first s = (parts : List Summary) (old : Option Record)
    → IsReady g p clean d (length tables) parts old first
    → HasNew g p clean d tables new s.content × IsAtRest g q rest [] s
    × KeepsRest g p clean first s.content
    × ((pieces : List Piece) × HasTables g p clean rest tables new pieces s.content)
