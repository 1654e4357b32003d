-- The nodes of an image, by their numbers.
use Rattle.std.specs.FinMap.{get}
use Rattle.std.specs.Prelude.{◌≡◌, ℕ, ◌<◌, ◌≤◌, length, slice_index, Option, Some, None}
use Rattle.hl_media.specs.History.{Image}
use Rattle.hl_addr.specs.Layout.{Layout}
use Rattle.hl_tseg.specs.SlotTable.{SlotTable}
use Rattle.hl_tables.specs.Values.{TableValues}
use Rattle.hl_inode.specs.declared.inode.Inode.{Inode}
use Rattle.hl_inode.specs.Inodes.{Spells}
use Rattle.hl_paths.specs.Nodes.{FlatNode, Nodes}
use Rattle.hl_placed.specs.Blocks.{file_block, blocks_of}
use Rattle.hl_nodes.specs.Pointers.{pointer_of, HasPointerBlock}
use Rattle.hl_image.specs.Places.{InLog}
use Rattle.hl_nodes.specs.Blocks.{StandsFor}

-- the inode of this number stands at the address in the log
pub record IsInodeAt (g : Layout) (image : Image) (ino address : ℕ) (v : Inode) : Type 0 where
  pub in_log : InLog g address
  pub spelled : Spells (image address) v
  pub number : v.number ≡ ino

-- the inode with what its pointers stand for is the node
pub record IsNodeOf (g : Layout) (slots : SlotTable) (image : Image) (v : Inode) (node : FlatNode) : Type 0 where
  pub kind_is : node.kind ≡ v.kind
  pub size_is : node.content.size ≡ v.size
  pub used_is : node.content.used ≡ v.used
  pub count : length node.content.blocks ≡ blocks_of v.size
  pub pointers : HasPointerBlock g image v
  pub blocks : (i : ℕ) → i < blocks_of v.size → StandsFor g slots image v.kind (pointer_of image v i) (file_block node.content i)

-- the node of this number, by the inode at the address
pub record IsNodeAt (g : Layout) (slots : SlotTable) (image : Image) (ino address : ℕ) (node : FlatNode) : Type 0 where
  pub inode : Inode
  pub there : IsInodeAt g image ino address inode
  pub is : IsNodeOf g slots image inode node

-- the node of a number, by its entry of the inode map: none exactly where the map says Nothing
abbrev pub IsMapEntry : Layout → SlotTable → Image → ℕ → ℕ → Option FlatNode → Type 0
IsMapEntry g slots image ino address None = address ≡ 4294967295
IsMapEntry g slots image ino address (Some node) = IsNodeAt g slots image ino address node

-- the nodes of the image, by its tables
pub record HasNodes (g : Layout) (image : Image) (t : TableValues) (nodes : Nodes) : Type 0 where
  pub entries : (ino : ℕ) → 1 ≤ ino → ino < g.inodes → IsMapEntry g t.slots image ino (slice_index t.inodes ino) (get nodes ino)
  pub zero : get nodes 0 ≡ None
  pub past : (ino : ℕ) → g.inodes ≤ ino → get nodes ino ≡ None
