-- A unit under way.
use Rattle.std.specs.Prelude.{◌≡◌, ℕ, ◌<◌, ◌^◌, List, length, take}
use Rattle.hl_bytes.specs.declared.block.Block.{Block}
use Rattle.hl_bytes.specs.declared.records.BlockRecord.{BlockRecord}
use Rattle.hl_bytes.specs.declared.records.TableRecord.{TableRecord}
use Rattle.hl_overlay.specs.DraftTables.{DraftTable}
use Rattle.hl_overlay.specs.Overlays.{OverlayValue, IsOverlay}
use Rattle.hl_overlay.specs.Making.{AddsAll}

-- the drafts, their new blocks, which come first in the unit, and the unit's blocks and changes of the tables
pub record MadeUnitValue : Type 0 where
  pub drafts : DraftTable
  pub fresh : List (BlockRecord × Block)
  pub blocks : List (BlockRecord × Block)
  pub tables : List TableRecord

-- the drafts with a unit whose first blocks are the new ones
abbrev pub made_value : DraftTable → ℕ → List (BlockRecord × Block) → List TableRecord → MadeUnitValue
made_value drafts first blocks tables = record { drafts = drafts; fresh = take first blocks; blocks = blocks; tables = tables }

-- the overlay behind a unit that wasn't written; no room is left in it
abbrev pub undone : MadeUnitValue → OverlayValue
undone m = record { drafts = m.drafts; blocks = m.fresh; room = 0 }

-- what it keeps: its drafts name the new blocks, whose numbers have 32 bits
pub record IsMadeUnit (m : MadeUnitValue) : Type 0 where
  pub named : IsOverlay (undone m)
  pub few : length m.fresh < 2 ^ 32

-- the unit of an overlay's drafts, whose blocks get the addresses of a plan
pub record IsMadeOf (plan uses : List ℕ) (old : OverlayValue) (tables : List TableRecord) (m : MadeUnitValue) : Type 0 where
  pub drafts_are : m.drafts ≡ old.drafts
  pub fresh_are : m.fresh ≡ old.blocks
  pub adds : AddsAll plan uses old.drafts.items old.blocks m.blocks
  pub tables_are : m.tables ≡ tables
