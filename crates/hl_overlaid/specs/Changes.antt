-- What is changed of one node.
use Rattle.std.specs.Prelude.{◌≡◌, ◌≢◌, ◌⊎◌, ℕ, ◌<◌, true, false, List, slice_index, slice_set, Option, Some, None}
use Rattle.std.specs.Option.{ForSome}
use Rattle.std.specs.FinMap.{get}
use Rattle.hl_media.specs.History.{Image}
use Rattle.hl_addr.specs.Layout.{Layout}
use Rattle.hl_tseg.specs.SlotTable.{SlotTable, slot_at}
use Rattle.hl_tseg.specs.Slots.{HoldsSerial}
use Rattle.hl_placed.specs.Blocks.{Away, Block, Here, Hole, blocks_of, listed}
use Rattle.hl_paths.specs.Nodes.{FlatNode, Nodes}
use Rattle.hl_nodes.specs.Contents.{Contents, HasContents}
use Rattle.hl_nodes.specs.Fates.{KeepsSlots}
use Rattle.hl_overlay.specs.declared.pointers.Pointer.{Pointer}
use Rattle.hl_overlay.specs.declared.pointers.Pointer.TheVariants as places
use Rattle.hl_overlay.specs.declared.draft.NodeDraft.{NodeDraft}
use Rattle.hl_overlay.specs.declared.draft.Shape.{Shape}
use Rattle.hl_overlay.specs.Pointing.{where_is}
use Rattle.hl_overlay.specs.DraftTables.{CanShape, HasBlock, Redrafts, Trims, draft_of}
use Rattle.hl_overlay.specs.Overlays.{Holding, KeepsDrafts, PutsBlock, Shapes}
use Rattle.hl_overlay.specs.Overlays.Holding.{Fresh, GoesAway, Remains, Zeros}
use Rattle.hl_overlay.specs.Making.{used_of}
use Rattle.hl_overlaid.specs.NodesNow.{IsOverlaid, Overlaid, nodes_now, old_block}
use Rattle.hl_overlaid.specs.Over.{GoesInto, IsDraftOf, IsOver}

-- what stands in a block, where the last unit has this one there
abbrev pub block_held : Block → Holding → Block
block_held old Zeros = Hole
block_held old (Remains addr) = old
block_held old (GoesAway addr serial position) = Away serial position
block_held old (Fresh bytes) = Here bytes

-- a node with another block, used at a moment
abbrev pub with_block : FlatNode → ℕ → Block → ℕ → FlatNode
with_block n i block used = record {
  kind = n.kind;
  content = record { size = n.content.size; used = used_of n.kind used; blocks = slice_set n.content.blocks i block };
}

-- a node of a shape with the blocks below its size that the number had, used at a moment
abbrev pub reshaped : Option FlatNode → ℕ → Shape → FlatNode
reshaped old used shape = record {
  kind = shape.kind;
  content = record { size = shape.size; used = used_of shape.kind used; blocks = listed (blocks_of shape.size) (old_block old) };
}

-- the shape of a node
abbrev pub node_shape : FlatNode → Shape
node_shape n = record { kind = n.kind; size = n.content.size }

-- each slot that held the segment of this serial holds it still
abbrev pub KeepsSerial : SlotTable → SlotTable → ℕ → Type 0
KeepsSerial before now serial = (number : ℕ) → HoldsSerial (slot_at before number) serial → HoldsSerial (slot_at now number) serial

-- what may be put into a block of a draft: anything but what the disk has, and a block that goes away only into a slot
-- that holds its segment
abbrev pub CanPut : Layout → SlotTable → SlotTable → NodeDraft → Holding → Type 0
CanPut g before now d Zeros = Unit {0}
CanPut g before now d (Remains addr) = ⊥
CanPut g before now d (GoesAway addr serial position) = GoesInto g now d addr serial position × KeepsSerial before now serial
CanPut g before now d (Fresh bytes) = Unit {0}

-- all numbers but one were used when they were
abbrev pub KeepsOtherUses : List ℕ → List ℕ → ℕ → Type 0
KeepsOtherUses old new ino = (q : ℕ) → q ≢ ino → slice_index new q ≡ slice_index old q

-- an overlay with room for so many more blocks
abbrev pub with_room : Overlaid → ℕ → Overlaid
with_room o room = record o { overlay = record o.overlay { room = room } }

-- an overlay with other last uses, or with other slots
abbrev pub with_uses : Overlaid → List ℕ → Overlaid
with_uses o uses = record o { uses = uses }

abbrev pub with_slot_table : Overlaid → SlotTable → Overlaid
with_slot_table o slots = record o { slots = slots }

-- a node used at a moment
abbrev pub node_used : ℕ → FlatNode → FlatNode
node_used used n = record { kind = n.kind; content = record { size = n.content.size; used = used_of n.kind used; blocks = n.content.blocks } }

-- a number has a changed draft, or has none
abbrev pub IsChangedDraft : Overlaid → ℕ → Type 0
IsChangedDraft o ino = (d : NodeDraft) × (draft_of o.overlay.drafts ino ≡ Some d) × (d.changed ≡ true)

abbrev pub HasNoChangedDraft : Overlaid → ℕ → Type 0
HasNoChangedDraft o ino = (d : NodeDraft) → draft_of o.overlay.drafts ino ≡ Some d → d.changed ≡ false

-- other slots hold each segment of which the nodes now have a block, where these held it
abbrev pub KeepsAllSlots : Overlaid → Nodes → SlotTable → Type 0
KeepsAllSlots o last slots = (ino : ℕ) (node : FlatNode) → get (nodes_now o last) ino ≡ Some node → KeepsSlots o.slots slots node

-- an overlay over contents of an image, and what it becomes, with the same slots
pub record IsChange (g : Layout) (image : Image) (c : Contents) (old new : Overlaid) : Type 0 where
  pub has : HasContents g image c
  pub before : IsOverlaid g old
  pub after : IsOverlaid g new
  pub over : IsOver g old image c
  pub slots : new.slots ≡ old.slots

-- a block of a drafted node has something else now
pub record PutsNow (g : Layout) (image : Image) (c : Contents) (old new : Overlaid) (ino i : ℕ) (now : Holding) : Type 0 where
  pub change : IsChange g image c old new
  pub uses : KeepsOtherUses old.uses new.uses ino
  pub number : ino < g.inodes
  pub block : HasBlock old.overlay.drafts ino i
  pub puts : PutsBlock old.overlay new.overlay ino i now
  pub keeps : KeepsDrafts old.overlay new.overlay ino i

-- the disk doesn't have the block of a draft, or it is a hole
abbrev pub IsOwnPointer : Pointer → Type 0
IsOwnPointer places.Hole = Unit {0}
IsOwnPointer (places.Kept addr) = ⊥
IsOwnPointer (places.Moved addr serial position) = ⊥
IsOwnPointer (places.New n) = Unit {0}

-- a shape that a draft may get: of the kind that it has, unless it has no block of the disk
abbrev pub KeepsKind : NodeDraft → Option Shape → Type 0
KeepsKind d shape = ((i : ℕ) → i < 1036 → IsOwnPointer (where_is d.pointers i)) ⊎ ForSome d.shape (λ t. ForSome shape (λ s. s.kind ≡ t.kind))

-- a drafted node is of another shape now, or of none
pub record ShapesNow (g : Layout) (image : Image) (c : Contents) (old new : Overlaid) (ino : ℕ) (shape : Option Shape) : Type 0 where
  pub change : IsChange g image c old new
  pub uses : KeepsOtherUses old.uses new.uses ino
  pub number : ino < g.inodes
  pub can : CanShape old.overlay.drafts ino shape
  pub kind : (d : NodeDraft) → draft_of old.overlay.drafts ino ≡ Some d → KeepsKind d shape
  pub shapes : Shapes old.overlay.drafts new.overlay.drafts ino shape
  pub blocks : new.overlay.blocks ≡ old.overlay.blocks

-- a node that had no draft is drafted as it was read
pub record AdmitsNow (g : Layout) (image : Image) (c : Contents) (old new : Overlaid) (d : NodeDraft) : Type 0 where
  pub change : IsChange g image c old new
  pub uses : new.uses ≡ old.uses
  pub absent : draft_of old.overlay.drafts d.ino ≡ None
  pub unchanged : d.changed ≡ false
  pub of : IsDraftOf g image c d
  pub redrafts : Redrafts old.overlay.drafts new.overlay.drafts d.ino d
  pub blocks : new.overlay.blocks ≡ old.overlay.blocks

-- drafts that aren't changed are gone, where more than so many were held
pub record TrimsNow (g : Layout) (image : Image) (c : Contents) (old new : Overlaid) (most : ℕ) : Type 0 where
  pub change : IsChange g image c old new
  pub uses : new.uses ≡ old.uses
  pub trims : Trims most old.overlay.drafts new.overlay.drafts
  pub blocks : new.overlay.blocks ≡ old.overlay.blocks
