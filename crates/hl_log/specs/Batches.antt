-- A batch as what it brings.
use Rattle.std.specs.Prelude.{◌≡◌, ℕ, ◌+◌, ◌-◌, ◌<◌, ◌≤◌, ◌^◌, min, Bool, ◌&&◌, List, length, take, drop}
use Rattle.hl_media.specs.History.{MachineState}
use Rattle.hl_addr.specs.Layout.{Layout}
use Rattle.hl_summary.specs.Ranges.{IsNextPlace}
use Rattle.hl_summary.specs.Parts.{HasRanges}
use Rattle.hl_summary.specs.declared.parts.Summary.{Summary}
use Rattle.hl_image.specs.declared.place.LogPlace.{LogPlace}
use Rattle.hl_image.specs.Parts.{IsPartBytes}
use Rattle.hl_image.specs.Places.{IsLogPlace}
use Rattle.hl_log.specs.declared.batch.Batch.{Batch}
use Rattle.hl_log.specs.declared.position.Position.{Position}
use Rattle.hl_log.specs.declared.piece.Piece.{Piece}
use Rattle.hl_log.specs.declared.piece.Left.{Left}
use Rattle.hl_log.specs.Cut.{summary_of}
use Rattle.hl_log.specs.Loads.{records_of, contents_of, AreOf}
use Rattle.hl_log.specs.Steps.{AddsPiece, HasAddedPiece}
use Rattle.hl_log.specs.Units.{Brought}

abbrev pub brought_of : Batch → Brought
brought_of b = record {
  closes = b.closes;
  records = records_of b.load;
  contents = contents_of b.load;
  changes = b.changes.now;
}

-- the blocks of the longest part: a summary with all that it may describe, or a whole segment
abbrev pub longest_part : Layout → ℕ
longest_part g = min g.k 241

-- the bytes are a part of this summary for each place where its fields are in their ranges
abbrev pub IsPartWhereItMay : Summary → List ℕ → Type 0
IsPartWhereItMay s bytes = (g : Layout) (at : LogPlace) → HasRanges g at.seg at.block s
    → IsPartBytes g at s.serial bytes s

-- its records are of the site, and each has its block
pub record IsBatch (g : Layout) (u : Brought) : Type 0 where
  pub of : AreOf g u.records u.changes
  pub both : length u.contents ≡ length u.records
  pub few : length u.records < 2 ^ 32

-- the part may stand at the place, and takes of what is left
pub record CanStand (g : Layout) (head : LogPlace) (left : Left) (u : Brought)
    (p : Piece) : Type 0 where
  pub place : IsLogPlace g head
  pub next : IsLogPlace g p.next
  pub goes : IsNextPlace g head.seg head.block p.blocks p.next.seg p.next.block
  pub within : head.block + p.blocks + 1 ≤ g.k
  pub blocks_most : p.blocks ≤ 240
  pub tables_most : p.tables ≤ 80
  pub blocks : p.blocks ≤ left.blocks
  pub tables : p.tables ≤ left.tables
  pub blocks_left : left.blocks ≤ length u.records
  pub tables_left : left.tables ≤ length u.changes

-- what the part says of itself, and its blocks
abbrev pub part_of_unit : Brought → Left → ℕ → Bool → Piece → Summary
part_of_unit u left serial last p =
    summary_of serial (u.closes && last) (drop (length u.records - left.blocks) u.records)
    (drop (length u.changes - left.tables) u.changes) p

abbrev pub blocks_of_part : Brought → Left → Piece → List (List ℕ)
blocks_of_part u left p = take p.blocks (drop (length u.records - left.blocks) u.contents)

-- at each moment of writing this part of what is left of a unit
abbrev pub AddsPieceOf : Layout → Position → Brought → Left → Bool → Piece → MachineState
    → MachineState → Type 0
AddsPieceOf g log u left last p =
    AddsPiece g log p.next (part_of_unit u left log.serial last p) (blocks_of_part u left p)

-- after it was written
abbrev pub HasAddedPieceOf : Layout → Position → Brought → Left → Bool → Piece → MachineState
    → MachineState → Type 0
HasAddedPieceOf g log u left last p =
    HasAddedPiece g log p.next (part_of_unit u left log.serial last p) (blocks_of_part u left p)
