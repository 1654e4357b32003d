-- The unit of what was changed.
use Rattle.std.specs.Prelude.{◌≡◌, ◌≢◌, ℕ, ◌≤◌, true, All, List, ◌++◌, length, map, slice_get, Some}
use Rattle.std.specs.List.{fold}
use Rattle.hl_media.specs.History.{MachineState}
use Rattle.hl_addr.specs.Layout.{Layout}
use Rattle.hl_bytes.specs.declared.block.Block.{Block}
use Rattle.hl_bytes.specs.declared.records.BlockRecord.{BlockRecord}
use Rattle.hl_bytes.specs.declared.records.TableRecord.{TableRecord}
use Rattle.hl_log.specs.declared.piece.Piece.{Piece}
use Rattle.hl_log.specs.declared.position.Position.{Position}
use Rattle.hl_log.specs.Cut.{AreCut, addresses}
use Rattle.hl_log.specs.Units.{Brought}
use Rattle.hl_tables.specs.Laying.{changed}
use Rattle.hl_overlay.specs.DraftTables.{freed_of}
use Rattle.hl_overlay.specs.Overlays.{OverlayValue}
use Rattle.hl_overlay.specs.Making.{AddsAll}
use Rattle.hl_nodes.specs.Contents.{Contents, Rests}
use Rattle.hl_overlaid.specs.NodesNow.{IsOverlaid, Overlaid}
use Rattle.hl_overlaid.specs.Over.{IsOver}

-- the changes of the tables that the unit is to have: the numbers that become free, and what was noted of slots
abbrev pub unit_changes : OverlayValue → List TableRecord → List TableRecord
unit_changes v notes = freed_of v.drafts.items ++ notes

-- what a unit of these blocks and changes brings
abbrev pub brought_by : List (BlockRecord × Block) → List TableRecord → Brought
brought_by blocks changes = record { closes = true; records = map (λ b. b.0) blocks; contents = map (λ b. b.1.bytes) blocks; changes = changes }

-- none of the blocks is the own one of this inode
abbrev pub BringsNoInode : List (BlockRecord × Block) → ℕ → Type 0
BringsNoInode blocks ino = (n : ℕ) (b : BlockRecord × Block) → slice_get blocks n ≡ Some b → b.0.index ≡ 4294967295 → b.0.ino ≢ ino

-- what is noted is said of a slot or a volume, not of an inode
abbrev pub IsOfSlots : TableRecord → Type 0
IsOfSlots r = 2 ≤ r.kind

-- The log rests over contents and the drafts are of what they have; the slots are those of the contents with what was
-- noted; and the drafts are added to their new blocks by the addresses that a cut of the clean segments gives.
pub record IsUnitNow (g : Layout) (p : Position) (clean : List ℕ) (o : Overlaid) (notes : List TableRecord) (c : Contents) (blocks : List (BlockRecord × Block)) (pieces : List Piece) (rest : List ℕ) (s : MachineState) : Type 0 where
  pub rests : Rests g p clean c s
  pub whole : IsOverlaid g o
  pub over : IsOver g o s.content c
  pub notes_are : All IsOfSlots notes
  pub slots_are : o.slots ≡ (fold changed c.tables notes).slots
  pub are_cut : AreCut g p.head clean (length blocks) (length (unit_changes o.overlay notes)) pieces rest
  pub adds : AddsAll (addresses g pieces) o.uses o.overlay.drafts.items o.overlay.blocks blocks
