-- A unit: whole or absent at every moment.
use Rattle.std.specs.Prelude.{◌≡◌, ◌⊎◌, ℕ, ◌+◌, ◌-◌, ◌<◌, ◌^◌, min, Bool, true, false, List, [], ◌++◌, length, drop, map}
use Rattle.hl_media.specs.History.{Image, MachineState}
use Rattle.hl_addr.specs.Layout.{Layout}
use Rattle.hl_bytes.specs.declared.records.BlockRecord.{BlockRecord}
use Rattle.hl_bytes.specs.declared.records.TableRecord.{TableRecord}
use Rattle.hl_summary.specs.declared.parts.Summary.{Summary}
use Rattle.hl_image.specs.declared.place.LogPlace.{LogPlace}
use Rattle.hl_image.specs.Chain.{cut, IsCutChain}
use Rattle.hl_log.specs.declared.position.Position.{Position}
use Rattle.hl_log.specs.declared.piece.Piece.{Piece}
use Rattle.hl_log.specs.Cut.{AreCut, HasClean, addresses, place_behind, summaries}
use Rattle.hl_log.specs.Rest.{IsAtRest, IsSame, Leaves}

-- what a unit brings: which blocks, what they hold, and changes of the tables; and whether its last part ends it
pub record Brought : Type 0 where
  pub closes : Bool
  pub records : List BlockRecord
  pub contents : List (List ℕ)
  pub changes : List TableRecord

-- this far into a unit
abbrev pub moved : Position → LogPlace → ℕ → Position
moved p head serial =
    record { start = p.start; first = p.first; head = head; serial = serial; fresh = false }

-- the unit is cut into these parts, and its blocks stand at their addresses
pub record Stands (g : Layout) (p : Position) (clean rest : List ℕ) (u : Brought)
    (pieces : List Piece) (image : Image) : Type 0 where
  pub are_cut : AreCut g p.head clean (length u.records) (length u.changes) pieces rest
  pub blocks : map image (addresses g pieces) ≡ u.contents

-- the parts of the unit, behind those before it
abbrev pub with_unit : Position → Brought → List Summary → List Piece → List Summary
with_unit p u parts pieces = parts ++ summaries u.closes p.serial u.records u.changes pieces

-- the cut chain is as it was, or the whole unit stands behind it, where its last part ends it
abbrev pub HasUnit : Layout → Position → List ℕ → Brought → List Summary → Image → Type 0
HasUnit g p clean u parts image = IsCutChain g image p.start p.first parts
    ⊎ ((u.closes ≡ true)
    × ((pieces : List Piece) × (rest : List ℕ) × Stands g p clean rest u pieces image
    × IsCutChain g image p.start p.first (with_unit p u parts pieces)))

-- the parts that so many blocks and table records are cut into have serials of 64 bits, and so has the next one
abbrev pub Numbered : Layout → Position → List ℕ → ℕ → ℕ → Type 0
Numbered g p clean blocks tables = (pieces : List Piece) (rest : List ℕ)
    → AreCut g p.head clean blocks tables pieces rest → p.serial + length pieces < 2 ^ 64

-- at each moment of writing a unit
abbrev pub WritesUnit : Layout → Position → List ℕ → Brought → MachineState → MachineState → Type 0
WritesUnit g p clean u first s = (parts : List Summary) → IsAtRest g p clean parts first
    → cut parts ≡ parts → Numbered g p clean (length u.records) (length u.changes)
    → Leaves g p clean (HasUnit g p clean u parts) first s

-- a unit's last part ends it, or none does
abbrev pub IsClosed : Bool → List Summary → List Summary → Type 0
IsClosed true parts unit = cut (parts ++ unit) ≡ parts ++ unit
IsClosed false parts unit = cut unit ≡ []

-- the unit stands behind the chain, and the log is at rest behind it
pub record UnitStands (g : Layout) (p : Position) (clean : List ℕ) (u : Brought) (q : Position)
    (rest : List ℕ) (parts : List Summary) (pieces : List Piece)
    (first s : MachineState) : Type 0 where
  pub stands : Stands g p clean rest u pieces s.content
  pub at_rest : IsAtRest g q rest (with_unit p u parts pieces) s
  pub same : IsSame g p clean first s
  pub closed : IsClosed u.closes parts (summaries u.closes p.serial u.records u.changes pieces)

-- after the unit was written
abbrev pub HasWritten : Layout → Position → List ℕ → Brought → Position → List ℕ → MachineState
    → MachineState → Type 0
HasWritten g p clean u q rest first s = (parts : List Summary) → IsAtRest g p clean parts first
    → cut parts ≡ parts → Numbered g p clean (length u.records) (length u.changes)
    → (pieces : List Piece) × UnitStands g p clean u q rest parts pieces first s

-- So many blocks and table records are cut into parts that leave these clean segments. Where the last of them goes on
-- the log does, and each has taken a serial.
pub record GoesOn (g : Layout) (p : Position) (clean : List ℕ) (blocks tables : ℕ) (head : LogPlace)
    (serial : ℕ) (rest : List ℕ) : Type 0 where
  pub pieces : List Piece
  pub are_cut : AreCut g p.head clean blocks tables pieces rest
  pub head_is : head ≡ place_behind p.head pieces
  pub serial_is : serial ≡ min (p.serial + length pieces) (2 ^ 64 - 1)

-- a unit goes on at the head of this position, which has taken so many of the clean segments
abbrev pub UnitGoesOn : Layout → Position → List ℕ → Brought → Position → ℕ → Type 0
UnitGoesOn g p clean u q used =
    GoesOn g p clean (length u.records) (length u.changes) q.head q.serial (drop used clean)

-- there are clean segments enough for what is brought
abbrev pub HasCleanFor : Layout → LogPlace → List ℕ → Brought → Type 0
HasCleanFor g head clean u = HasClean g head clean (length u.records) (length u.changes)
