-- What holds of an image's contents at each moment of a unit and of a checkpoint, and behind them.
use Rattle.std.specs.Prelude.{◌⊎◌, ℕ, ◌+◌, ◌/◌, ◌<◌, ◌^◌, List, length}
use Rattle.hl_media.specs.History.{Image, MachineState}
use Rattle.hl_addr.specs.Layout.{Layout}
use Rattle.hl_super.specs.declared.record.Record.{Record}
use Rattle.hl_log.specs.declared.position.Position.{Position}
use Rattle.hl_log.specs.declared.piece.Piece.{Piece}
use Rattle.hl_log.specs.Cut.{AreCut, addresses}
use Rattle.hl_log.specs.Rest.{StopLeaves}
use Rattle.hl_log.specs.Units.{Brought, Numbered}
use Rattle.hl_log.specs.Checkpoints.{Given, IsNextRecord}
use Rattle.hl_tables.specs.Values.{TableValues}
use Rattle.hl_paths.specs.Nodes.{Nodes}
use Rattle.hl_nodes.specs.Live.{NodeBlock, IsNodeBlock}
use Rattle.hl_nodes.specs.Contents.{Contents, HasContents, Rests}
use Rattle.hl_nodes.specs.Units.{Makes, after_unit}
use Rattle.hl_nodes.specs.Sound.{IsMarked, IsSound, HasSound, KeepsSound}
use Rattle.hl_nodes.specs.Checkpoints.{contents_of_tables, IsCheckpointOf, after_checkpoint}

-- a unit that is cut into these parts makes nodes of the contents over which the log rests
pub record IsUnitOf (g : Layout) (p : Position) (clean : List ℕ) (u : Brought) (c : Contents) (pieces : List Piece) (rest : List ℕ) (nodes : Nodes) (first : MachineState) : Type 0 where
  pub rests : Rests g p clean c first
  pub are_cut : AreCut g p.head clean (length u.records) (length u.changes) pieces rest
  pub makes : Makes g first.content c u (addresses g pieces) nodes
  pub numbered : Numbered g p clean (length u.records) (length u.changes)

-- the image has the contents before, or those behind
abbrev pub HasOneOf : Layout → Contents → Contents → Image → Type 0
HasOneOf g before after image = HasContents g image before ⊎ HasContents g image after

-- at each moment of such a unit, and behind it
abbrev pub MovesNodes : Layout → Position → List ℕ → Brought → MachineState → MachineState → Type 0
MovesNodes g p clean u first s = (c : Contents) (pieces : List Piece) (rest : List ℕ) (nodes : Nodes) → IsUnitOf g p clean u c pieces rest nodes first
    → StopLeaves g p (HasOneOf g c (after_unit g p c u pieces nodes)) s

abbrev pub HasMovedNodes : Layout → Position → List ℕ → Brought → Position → List ℕ → MachineState → MachineState → Type 0
HasMovedNodes g p clean u q left first s = (c : Contents) (pieces : List Piece) (rest : List ℕ) (nodes : Nodes) → IsUnitOf g p clean u c pieces rest nodes first
    → Rests g q left (after_unit g p c u pieces nodes) s

-- such a unit over sound contents, which leaves them sound
pub record IsSoundUnitOf (g : Layout) (p : Position) (clean : List ℕ) (u : Brought) (c : Contents) (pieces : List Piece) (rest : List ℕ) (nodes : Nodes) (first : MachineState) : Type 0 where
  pub is : IsUnitOf g p clean u c pieces rest nodes first
  pub sound : IsSound g first.content c
  pub keeps : KeepsSound g u (after_unit g p c u pieces nodes)

-- at each moment of it, and behind it
abbrev pub MovesSound : Layout → Position → List ℕ → Brought → MachineState → MachineState → Type 0
MovesSound g p clean u first s = (c : Contents) (pieces : List Piece) (rest : List ℕ) (nodes : Nodes) → IsSoundUnitOf g p clean u c pieces rest nodes first
    → StopLeaves g p (λ image. HasSound g image c ⊎ HasSound g image (after_unit g p c u pieces nodes)) s

abbrev pub HasMovedSound : Layout → Position → List ℕ → Brought → MachineState → MachineState → Type 0
HasMovedSound g p clean u first s = (c : Contents) (pieces : List Piece) (rest : List ℕ) (nodes : Nodes) → IsSoundUnitOf g p clean u c pieces rest nodes first
    → IsSound g s.content (after_unit g p c u pieces nodes)

-- a checkpoint of the contents over which the log rests
pub record IsCheckpoint (g : Layout) (p : Position) (clean : List ℕ) (d : Given) (t : TableValues) (c : Contents) (first : MachineState) : Type 0 where
  pub rests : Rests g p clean c first
  pub is : IsCheckpointOf c d t
  pub numbered : Numbered g p clean (length (contents_of_tables g t)) 0
  pub next_number : d.number + 1 < 2 ^ 64

-- the image has the contents before, or the same nodes behind a next record
abbrev pub HasSameNodes : Layout → Given → TableValues → Contents → Image → Type 0
HasSameNodes g d t c image = HasContents g image c ⊎ ((new : Record) × IsNextRecord d new × HasContents g image (after_checkpoint c new t))

-- at each moment of such a checkpoint, and behind it
abbrev pub KeepsNodes : Layout → Position → List ℕ → Given → TableValues → MachineState → MachineState → Type 0
KeepsNodes g p clean d t first s = (c : Contents) → IsCheckpoint g p clean d t c first → StopLeaves g p (HasSameNodes g d t c) s

abbrev pub HasKeptNodes : Layout → Position → List ℕ → Given → TableValues → Position → List ℕ → Record → MachineState → MachineState → Type 0
HasKeptNodes g p clean d t q left new first s = (c : Contents) → IsCheckpoint g p clean d t c first → Rests g q left (after_checkpoint c new t) s

-- Such a checkpoint over sound contents: its tables mark each segment that holds a block of a node.
pub record IsSoundCheckpoint (g : Layout) (p : Position) (clean : List ℕ) (d : Given) (t : TableValues) (c : Contents) (first : MachineState) : Type 0 where
  pub is : IsCheckpoint g p clean d t c first
  pub sound : IsSound g first.content c
  pub marks : (ino : ℕ) (block : NodeBlock) (address : ℕ) → IsNodeBlock g first.content c.tables ino block address → IsMarked t (address / g.k)

-- the image has sound contents: those before, or the same nodes behind a next record
abbrev pub HasSameSound : Layout → Given → TableValues → Contents → Image → Type 0
HasSameSound g d t c image = HasSound g image c ⊎ ((new : Record) × IsNextRecord d new × HasSound g image (after_checkpoint c new t))
