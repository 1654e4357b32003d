-- What the calls of a store make of its nodes.
use Rattle.std.specs.Prelude.{◌≡◌, ◌≢◌, ℕ, ◌+◌, ◌<◌, ◌≤◌, IsSome, slice_index, Option, Some, None, option_map}
use Rattle.std.specs.Option.{ForSome}
use Rattle.std.specs.FinMap.{get}
use Rattle.hl_media.specs.History.{History, MachineState}
use Rattle.hl_media.specs.Causes.{Rose}
use Rattle.hl_inode.specs.declared.inode.Kind.{Kind}
use Rattle.hl_inode.specs.declared.inode.Kind.TheVariants.{File}
use Rattle.hl_nodes.specs.Blocks.{LiesAway}
use Rattle.hl_overlay.specs.Overlays.{holding}
use Rattle.hl_overlay.specs.Overlays.Holding.{Zeros}
use Rattle.hl_placed.specs.Blocks.{Block}
use Rattle.hl_paths.specs.Nodes.{FlatNode}
use Rattle.hl_nodes.specs.Contents.{Contents}
use Rattle.hl_overlay.specs.declared.draft.NodeDraft.{NodeDraft}
use Rattle.hl_overlay.specs.declared.draft.Shape.{Shape}
use Rattle.hl_overlay.specs.DraftTables.{draft_of}
use Rattle.hl_overlaid.specs.NodesNow.{with_node}
use Rattle.hl_overlaid.specs.Changes.{HasNoChangedDraft, IsChangedDraft, KeepsOtherUses, KeepsSerial, node_used, reshaped, with_block}
use Rattle.hl_store.specs.declared.answers.Node.{Node}
use Rattle.hl_store.specs.declared.answers.NodeFound.{NodeFound}
use Rattle.hl_store.specs.declared.answers.NodeFound.TheVariants as node
use Rattle.hl_store.specs.declared.answers.Prepared.{Prepared}
use Rattle.hl_store.specs.declared.answers.Prepared.TheVariants as prepared
use Rattle.hl_store.specs.Values.{StoreValue, layout, nodes_of, overlaid}
use Rattle.hl_store.specs.Lying.{LiesOver, block_of_number}
use Rattle.hl_store.specs.Finding.{ReadsNodes, on_machine}

-- the shape of a node
abbrev pub shape_of : Node → Shape
shape_of node = record { kind = node.kind; size = node.size }

-- whatever the contents are
abbrev pub Always : Contents → Type 0
Always c = Unit {0}

module _ {M : Type 0} where
  -- what the draft of a number is to be; none where the number isn't drafted
  abbrev pub drafted_shape : StoreValue M → ℕ → Option (Option Shape)
  drafted_shape v ino = option_map (λ d. d.shape) (draft_of v.overlay.drafts ino)

  -- a number is drafted as a node of this kind and size, which a node may have
  pub record IsDraftedAs (v : StoreValue M) (ino : ℕ) (n : Node) : Type 0 where
    pub shape : drafted_shape v ino ≡ Some (Some (shape_of n))
    pub size : n.size ≤ 4243456

  -- a number whose node was found is drafted as that, and one that isn't in use as none
  abbrev pub DraftsFound : StoreValue M → ℕ → NodeFound → Type 0
  DraftsFound v ino (node.Node n) = IsDraftedAs v ino n
  DraftsFound v ino node.Unused = drafted_shape v ino ≡ Some None
  DraftsFound v ino node.DiskFault = Unit {0}
  DraftsFound v ino node.Memory = Unit {0}

  -- each other number is drafted as it was
  abbrev pub KeepsOtherShapes : StoreValue M → StoreValue M → ℕ → Type 0
  KeepsOtherShapes old new ino =
      (q : ℕ) → q < (layout old).inodes → q ≢ ino → drafted_shape new q ≡ drafted_shape old q

  -- each number is drafted as it was
  abbrev pub KeepsShapes : StoreValue M → StoreValue M → Type 0
  KeepsShapes old new =
      (q : ℕ) → q < (layout old).inodes → drafted_shape new q ≡ drafted_shape old q

  -- only drafts, what is counted of nodes and last uses may have changed
  abbrev pub KeepsBeside : StoreValue M → StoreValue M → Type 0
  KeepsBeside old new =
      new ≡ record old { overlay = new.overlay; uses = new.uses; tally = new.tally }

  -- A call gives one number another node or none, where the contents allow it: over whatever contents the store lay it lies
  -- still, and no other node changes. It calls no device.
  pub record ChangesNode (old new : StoreValue M) (ino : ℕ) (Allowed : Contents → Type 0)
      (change : Option FlatNode → Option FlatNode) : Type 0 where
    pub beside : KeepsBeside old new
    pub over : (c : Contents) (s : MachineState) → LiesOver old c s → Allowed c → LiesOver new c s
    pub nodes : (c : Contents) (s : MachineState) → LiesOver old c s
        → nodes_of new c ≡ with_node (nodes_of old c) ino (change (get (nodes_of old c) ino))

  -- the slots that held the segment in the contents hold it still
  abbrev pub StaysIn : StoreValue M → ℕ → Contents → Type 0
  StaysIn v serial c = KeepsSerial c.tables.slots v.tables.slots serial

  -- A block of a node is put, and the node is used when its number was. No draft changes its shape.
  pub record PutsInto (old new : StoreValue M) (ino i : ℕ) (Allowed : Contents → Type 0)
      (block : Block) : Type 0 where
    pub changes : ChangesNode old new ino Allowed
        (option_map (λ n. with_block n i block (slice_index old.uses ino)))
    pub uses : new.uses ≡ old.uses
    pub shapes : KeepsShapes old new

  -- A number is of another shape, or of none, with the blocks that it had below that size.
  pub record Reshapes (old new : StoreValue M) (ino used : ℕ) (shape : Option Shape) : Type 0 where
    pub changes : ChangesNode old new ino Always (λ was. option_map (reshaped was used) shape)
    pub own : drafted_shape new ino ≡ Some shape
    pub others : KeepsOtherShapes old new ino
    pub room : new.overlay.room ≡ old.overlay.room

  -- Blocks of a drafted node are holes from one on to another, and those before them are as they were. No draft changes its
  -- shape.
  pub record DropsBetween (old new : StoreValue M) (ino from end : ℕ) : Type 0 where
    pub beside : KeepsBeside old new
    pub uses : new.uses ≡ old.uses
    pub over : (c : Contents) (s : MachineState) → LiesOver old c s → LiesOver new c s
    pub others : (c : Contents) (s : MachineState) → LiesOver old c s → (q : ℕ) → q ≢ ino
        → get (nodes_of new c) q ≡ get (nodes_of old c) q
    pub blocks : (c : Contents) (s : MachineState) → LiesOver old c s → (j : ℕ) → j < from
        → block_of_number new c ino j ≡ block_of_number old c ino j
    pub shapes : KeepsShapes old new
    pub kept : (j : ℕ) → j < from → holding new.overlay ino j ≡ holding old.overlay ino j
    pub holes : (j : ℕ) → from ≤ j → j < end → holding new.overlay ino j ≡ Some Zeros
    pub room : new.overlay.room ≡ old.overlay.room

  -- all its blocks from one on are holes, and those before it are as they were
  abbrev pub DropsFrom : StoreValue M → StoreValue M → ℕ → ℕ → Type 0
  DropsFrom old new ino from = DropsBetween old new ino from 1036

  -- a number is drafted as a node of this kind, or as none
  abbrev pub IsOfKind : StoreValue M → ℕ → Kind → Type 0
  IsOfKind v ino kind =
      (d : NodeDraft) → draft_of v.overlay.drafts ino ≡ Some d
      → ForSome d.shape (λ s. s.kind ≡ kind)

  -- the address is of a data block of a segment that a slot holds, or is to hold
  pub record HasSegmentAt (v : StoreValue M) (addr : ℕ) : Type 0 where
    pub serial : ℕ
    pub position : ℕ
    pub lies : LiesAway (layout v) v.tables.slots addr serial position

  -- a number is drafted as a file, and may have a block at the address
  pub record MayGoAway (v : StoreValue M) (ino addr : ℕ) : Type 0 where
    pub draft : NodeDraft
    pub is : draft_of v.overlay.drafts ino ≡ Some draft
    pub file : ForSome draft.shape (λ shape. shape.kind ≡ File)
    pub segment : HasSegmentAt v addr

  -- A number is used at another moment: its node is used then, if it was changed since the last unit.
  pub record Touches (old new : StoreValue M) (ino used : ℕ) : Type 0 where
    pub same : new ≡ record old { uses = new.uses }
    pub uses : KeepsOtherUses old.uses new.uses ino
    pub own : slice_index new.uses ino ≡ used
    pub over : (c : Contents) (s : MachineState) → LiesOver old c s → LiesOver new c s
    pub shows : (c : Contents) (s : MachineState) → LiesOver old c s
        → IsChangedDraft (overlaid old) ino
        → nodes_of new c ≡ with_node (nodes_of old c) ino
        (option_map (node_used used) (get (nodes_of old c) ino))
    pub waits : (c : Contents) (s : MachineState) → LiesOver old c s
        → HasNoChangedDraft (overlaid old) ino
        → nodes_of new c ≡ nodes_of old c

  -- What preparing leaves: the number is drafted, with room for so many new blocks more; or nothing but the machine changed.
  abbrev pub Prepares : (M → Option History) → (M → ℕ) → StoreValue M → StoreValue M → ℕ → ℕ
      → Prepared → Type 0
  Prepares history faults old new ino count prepared.Ready = ReadsNodes history old new
      × IsSome (draft_of new.overlay.drafts ino) × (new.overlay.room ≡ old.overlay.room + count)
  Prepares history faults old new ino count prepared.DiskFault =
      (new ≡ on_machine old new.log.machine)
      × Rose (faults old.log.machine) (faults new.log.machine)
  Prepares history faults old new ino count prepared.Memory = new ≡ on_machine old new.log.machine
