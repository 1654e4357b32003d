-- Where the parts of a segment say which live blocks it holds.
use Rattle.std.specs.Prelude.{◌≡◌, ◌⊎◌, ℕ, ◌+◌, ◌*◌, ◌<◌, List, [], ◌∷◌, length}
use Rattle.std.specs.List.{slice_index_or}
use Rattle.hl_media.specs.History.{Image, MachineState}
use Rattle.hl_addr.specs.Layout.{Layout}
use Rattle.hl_bytes.specs.declared.records.BlockRecord.{BlockRecord}
use Rattle.hl_super.specs.declared.record.Record.{Record}
use Rattle.hl_summary.specs.declared.parts.Summary.{Summary}
use Rattle.hl_image.specs.declared.place.LogPlace.{LogPlace}
use Rattle.hl_image.specs.Parts.{IsPart}
use Rattle.hl_log.specs.declared.position.Position.{Position}
use Rattle.hl_log.specs.declared.piece.Piece.{Piece}
use Rattle.hl_log.specs.Free.{IsFree}
use Rattle.hl_log.specs.Cut.{AreCut, addresses}
use Rattle.hl_log.specs.Rest.{StopLeaves}
use Rattle.hl_log.specs.Units.{Brought}
use Rattle.hl_log.specs.Checkpoints.{Given, IsNextRecord}
use Rattle.hl_tables.specs.Values.{TableValues}
use Rattle.hl_paths.specs.Nodes.{Nodes}
use Rattle.hl_nodes.specs.Live.{NodeBlock, record_of, IsNodeBlock, LiveBlock, live_record, IsLiveAt}
use Rattle.hl_nodes.specs.Contents.{Contents, HasContents}
use Rattle.hl_nodes.specs.Units.{IsPlanned, after_unit}
use Rattle.hl_nodes.specs.Checkpoints.{after_checkpoint}
use Rattle.hl_nodes.specs.Moments.{IsUnitOf, IsCheckpoint}
use Rattle.hl_nodes.specs.Sound.{head_of}

-- these parts stand in the segment, each with the serial that it carries, the first at this block and each other where
-- the one before ends
abbrev pub PartRow : Layout → Image → ℕ → ℕ → List Summary → Type 0
PartRow g image seg block [] = Unit {0}
PartRow g image seg block (s ∷ parts) = IsPart g image (record { seg = seg; block = block }) s.serial s × PartRow g image seg (block + length s.blocks + 1) parts

-- the block of the segment where the last of them ends
abbrev pub row_end : ℕ → List Summary → ℕ
row_end block [] = block
row_end block (s ∷ parts) = row_end (block + length s.blocks + 1) parts

-- one of them has the record, of the block at the address
abbrev pub Lists : Layout → ℕ → ℕ → List Summary → BlockRecord → ℕ → Type 0
Lists g seg block [] r address = ⊥
Lists g seg block (s ∷ parts) r address = ((i : ℕ) × (i < length s.blocks) × (slice_index_or s.blocks i r ≡ r) × (g.k * seg + block + 1 + i ≡ address))
    ⊎ Lists g seg (block + length s.blocks + 1) parts r address

-- from its first block on parts stand in the segment up to this block
pub record IsListed (g : Layout) (image : Image) (seg upto : ℕ) : Type 0 where
  pub parts : List Summary
  pub row : PartRow g image seg 0 parts
  pub reach : row_end 0 parts ≡ upto

-- Such parts of a segment have the record, of the block at the address. In the head's segment they reach the head.
pub record HasListed (g : Layout) (image : Image) (head : LogPlace) (r : BlockRecord) (address : ℕ) : Type 0 where
  pub segment : ℕ
  pub parts : List Summary
  pub row : PartRow g image segment 0 parts
  pub lists : Lists g segment 0 parts r address
  pub reach : segment ≡ head.seg → row_end 0 parts ≡ head.block

-- the parts of the head's segment reach the head, and each live block of the contents has its record in a part of its
-- segment
pub record AreListed (g : Layout) (image : Image) (c : Contents) (head : LogPlace) : Type 0 where
  pub ahead : IsListed g image head.seg head.block
  pub blocks : (block : LiveBlock) (address : ℕ) → IsLiveAt g image c.rec c.tables block address → HasListed g image head (live_record block) address

-- the parts of the head's segment reach the head, and each block of the nodes that the tables name has its record in a part
pub record AreNodesListed (g : Layout) (image : Image) (t : TableValues) (head : LogPlace) : Type 0 where
  pub ahead : IsListed g image head.seg head.block
  pub blocks : (ino : ℕ) (block : NodeBlock) (address : ℕ) → IsNodeBlock g image t ino block address → HasListed g image head (record_of ino block) address

-- A unit that is cut into these parts lists its blocks, and keeps listed each block that wasn't free.
pub record ListsUnit (g : Layout) (p : Position) (clean : List ℕ) (u : Brought) (q : Position) (left : List ℕ) (pieces : List Piece) (first s : MachineState) : Type 0 where
  pub are_cut : AreCut g p.head clean (length u.records) (length u.changes) pieces left
  pub ahead : IsListed g s.content q.head.seg q.head.block
  pub brought : (r : BlockRecord) (address : ℕ) → IsPlanned u (addresses g pieces) r address → HasListed g s.content q.head r address
  pub kept : (r : BlockRecord) (address : ℕ) → (IsFree g p.head clean address → ⊥) → HasListed g first.content p.head r address → HasListed g s.content q.head r address

-- the image has the contents, and its live blocks are listed
pub record HoldsListed (g : Layout) (image : Image) (c : Contents) : Type 0 where
  pub has : HasContents g image c
  pub listed : AreListed g image c (head_of c.rec c.parts)

-- at each moment of a unit over listed contents, and behind it
abbrev pub MovesListed : Layout → Position → List ℕ → Brought → MachineState → MachineState → Type 0
MovesListed g p clean u first s = (c : Contents) (pieces : List Piece) (rest : List ℕ) (nodes : Nodes) → IsUnitOf g p clean u c pieces rest nodes first → AreListed g first.content c (head_of c.rec c.parts)
    → StopLeaves g p (λ image. HoldsListed g image c ⊎ HoldsListed g image (after_unit g p c u pieces nodes)) s

abbrev pub HasMovedListed : Layout → Position → List ℕ → Brought → MachineState → MachineState → Type 0
HasMovedListed g p clean u first s = (c : Contents) (pieces : List Piece) (rest : List ℕ) (nodes : Nodes) → IsUnitOf g p clean u c pieces rest nodes first → AreListed g first.content c (head_of c.rec c.parts)
    → HoldsListed g s.content (after_unit g p c u pieces nodes)

-- the image has listed contents: those before, or the same nodes behind a next record
abbrev pub HasSameListed : Layout → Given → TableValues → Contents → Image → Type 0
HasSameListed g d t c image = HoldsListed g image c ⊎ ((new : Record) × IsNextRecord d new × HoldsListed g image (after_checkpoint c new t))

-- at each moment of a checkpoint of listed contents, and behind it
abbrev pub KeepsListed : Layout → Position → List ℕ → Given → TableValues → MachineState → MachineState → Type 0
KeepsListed g p clean d t first s = (c : Contents) → IsCheckpoint g p clean d t c first → AreListed g first.content c (head_of c.rec c.parts) → StopLeaves g p (HasSameListed g d t c) s

abbrev pub HasKeptListed : Layout → Position → List ℕ → Given → TableValues → Record → MachineState → MachineState → Type 0
HasKeptListed g p clean d t new first s = (c : Contents) → IsCheckpoint g p clean d t c first → AreListed g first.content c (head_of c.rec c.parts) → HoldsListed g s.content (after_checkpoint c new t)
