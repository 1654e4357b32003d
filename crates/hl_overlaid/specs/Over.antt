-- Drafts of what an image has.
use Rattle.std.specs.Prelude.{◌≡◌, ◌≢◌, ℕ, ◌-◌, ◌<◌, ◌≤◌, false, Option, Some, None, slice_get, slice_index}
use Rattle.std.specs.Option.{ForSome}
use Rattle.std.specs.FinMap.{get}
use Rattle.hl_media.specs.History.{Image}
use Rattle.hl_addr.specs.Layout.{Layout}
use Rattle.hl_tseg.specs.SlotTable.{SlotTable}
use Rattle.hl_inode.specs.declared.inode.Kind.{Kind}
use Rattle.hl_inode.specs.declared.inode.Kind.TheVariants.{File}
use Rattle.hl_placed.specs.Blocks.{blocks_of, file_block}
use Rattle.hl_placed.specs.Blocks as blocks
use Rattle.hl_paths.specs.Nodes.{FlatNode}
use Rattle.hl_nodes.specs.Pointers.{pointer_in}
use Rattle.hl_nodes.specs.Blocks.{LiesAway}
use Rattle.hl_nodes.specs.Live.{HasAddress, IsNodeBlock}
use Rattle.hl_nodes.specs.Live.NodeBlock.{Content, Pointers}
use Rattle.hl_nodes.specs.Contents.{Contents}
use Rattle.hl_nodes.specs.Fates.{KeepsSlots}
use Rattle.hl_overlay.specs.declared.pointers.Pointer.TheVariants.{Hole, Kept, Moved}
use Rattle.hl_overlay.specs.declared.draft.NodeDraft.{NodeDraft}
use Rattle.hl_overlay.specs.Pointing.{pointer_to, where_is}
use Rattle.hl_overlaid.specs.NodesNow.{Overlaid, nodes_now}

-- The draft is the node as it was read: of its kind and size, and a hole only where the node has one.
abbrev pub IsAsRead : Option FlatNode → NodeDraft → Type 0
IsAsRead None d = d.shape ≡ None
IsAsRead (Some node) d = (d.shape ≡ Some (record { kind = node.kind; size = node.content.size }))
    × ((i : ℕ) → i < blocks_of node.content.size → where_is d.pointers i ≡ Hole → file_block node.content i ≡ blocks.Hole)

-- the node had this kind
abbrev pub IsOfKind : Option FlatNode → Kind → Type 0
IsOfKind node kind = ForSome node (λ n. n.kind ≡ kind)

-- A draft of what the contents have under its number: the inode lies at the draft's address, each block that is kept at
-- the address that the node has for it, and a pointer block that is kept names the blocks from 12 on as they are.
pub record IsDraftOf (g : Layout) (image : Image) (c : Contents) (d : NodeDraft) : Type 0 where
  pub own : d.own ≡ slice_index c.tables.inodes d.ino
  pub kept : (i addr : ℕ) → i < 1036 → where_is d.pointers i ≡ Kept addr → HasAddress g image c.tables d.ino (Content i) addr
  pub kind : (i addr : ℕ) → i < 1036 → where_is d.pointers i ≡ Kept addr → ForSome d.shape (λ shape. IsOfKind (get c.nodes d.ino) shape.kind)
  pub single : d.single ≢ 4294967295 → IsNodeBlock g image c.tables d.ino Pointers d.single
  pub names : d.single ≢ 4294967295 → (i : ℕ) → 12 ≤ i → i < 1036 → where_is d.pointers i ≡ pointer_to (pointer_in image d.single (i - 12))
  pub as_read : d.changed ≡ false → IsAsRead (get c.nodes d.ino) d
  pub pointers_read : d.changed ≡ false → (address : ℕ) → IsNodeBlock g image c.tables d.ino Pointers address → d.single ≡ address

-- a block that goes away is one of a file, and lies in a slot that holds its segment
pub record GoesInto (g : Layout) (slots : SlotTable) (d : NodeDraft) (addr serial position : ℕ) : Type 0 where
  pub file : ForSome d.shape (λ shape. shape.kind ≡ File)
  pub lies : LiesAway g slots addr serial position

-- Each draft is of what the contents have, each block that goes away lies in a slot, and the slots go on holding the
-- segments of which the nodes now have blocks.
pub record IsOver (g : Layout) (o : Overlaid) (image : Image) (c : Contents) : Type 0 where
  pub drafts : (k : ℕ) (d : NodeDraft) → slice_get o.overlay.drafts.items k ≡ Some d → IsDraftOf g image c d
  pub away : (k : ℕ) (d : NodeDraft) (i addr serial position : ℕ) → slice_get o.overlay.drafts.items k ≡ Some d → i < 1036
      → where_is d.pointers i ≡ Moved addr serial position → GoesInto g o.slots d addr serial position
  pub slots : (ino : ℕ) (node : FlatNode) → get (nodes_now o c.nodes) ino ≡ Some node → KeepsSlots c.tables.slots o.slots node
