-- An inode that a unit brings, by its pointers: each names a block of the unit, or one that the node had there before.
use Rattle.std.specs.Prelude.{◌≡◌, ◌⊎◌, ℕ, ◌<◌, List, [], length}
use Rattle.std.specs.List.{slice_index_or}
use Rattle.hl_media.specs.History.{Image}
use Rattle.hl_addr.specs.Layout.{Layout}
use Rattle.hl_bytes.specs.declared.records.BlockRecord.{BlockRecord}
use Rattle.hl_log.specs.Units.{Brought}
use Rattle.hl_inode.specs.declared.inode.Kind.{Kind}
use Rattle.hl_inode.specs.declared.inode.Kind.TheVariants.{File}
use Rattle.hl_inode.specs.declared.inode.Inode.{Inode}
use Rattle.hl_inode.specs.Inodes.{Spells}
use Rattle.hl_paths.specs.Nodes.{FlatNode}
use Rattle.hl_placed.specs.Blocks.{Away, Block, Here, Hole, file_block, blocks_of}
use Rattle.hl_nodes.specs.Pointers.{pointer_of, HasPointerBlock}
use Rattle.hl_nodes.specs.Blocks.{LiesAway}
use Rattle.hl_nodes.specs.Live.{record_of, IsNodeBlock}
use Rattle.hl_nodes.specs.Live.NodeBlock.{Own, Pointers, Content}
use Rattle.hl_nodes.specs.Contents.{Contents}
use Rattle.hl_nodes.specs.Units.{TakesIn, IsPlanned, unit_laid}

-- the unit has the block that the record names, with these bytes, and it lies at the address
pub record IsBrought (u : Brought) (plan : List ℕ) (r : BlockRecord) (bytes : List ℕ) (address : ℕ) : Type 0 where
  pub planned : IsPlanned u plan r address
  pub holds : slice_index_or u.contents planned.index [] ≡ bytes

-- the node had this block at the address before, with these bytes
pub record IsOld (g : Layout) (before : Image) (c : Contents) (ino i : ℕ) (bytes : List ℕ) (address : ℕ) : Type 0 where
  pub lay : IsNodeBlock g before c.tables ino (Content i) address
  pub holds : before address ≡ bytes

-- the pointer to block i of a node that a unit brings
abbrev pub BringsBlock : Layout → Image → Contents → Brought → List ℕ → ℕ → Kind → ℕ → ℕ → Block → Type 0
BringsBlock g before c u plan ino kind i pointer Hole = pointer ≡ 4294967295
BringsBlock g before c u plan ino kind i pointer (Here bytes) = IsBrought u plan (record_of ino (Content i)) bytes pointer ⊎ IsOld g before c ino i bytes pointer
BringsBlock g before c u plan ino kind i pointer (Away serial position) = (kind ≡ File) × LiesAway g (unit_laid c.tables u plan).slots pointer serial position

-- the pointer block of such a node: none, or one of the unit's, or the one that the node had
abbrev pub BringsPointers : Layout → Image → Contents → Brought → List ℕ → ℕ → ℕ → Type 0
BringsPointers g before c u plan ino address = (address ≡ 4294967295)
    ⊎ (((bytes : List ℕ) × IsBrought u plan (record_of ino Pointers) bytes address) ⊎ IsNodeBlock g before c.tables ino Pointers address)

-- the unit brings the inode of the node as its block of this index
pub record BringsInode (g : Layout) (before : Image) (c : Contents) (u : Brought) (plan : List ℕ) (ino index : ℕ) (node : FlatNode) : Type 0 where
  pub there : index < length u.records
  pub own : slice_index_or u.records index (record_of ino Own) ≡ record_of ino Own
  pub inode : Inode
  pub spelled : Spells (slice_index_or u.contents index []) inode
  pub number : inode.number ≡ ino
  pub kind_is : node.kind ≡ inode.kind
  pub size_is : node.content.size ≡ inode.size
  pub used_is : node.content.used ≡ inode.used
  pub count : length node.content.blocks ≡ blocks_of inode.size
  pub single : BringsPointers g before c u plan ino inode.single
  pub pointers : (image : Image) → TakesIn g before c u plan image → HasPointerBlock g image inode
  pub blocks : (image : Image) → TakesIn g before c u plan image → (i : ℕ) → i < blocks_of inode.size → BringsBlock g before c u plan ino inode.kind i (pointer_of image inode i) (file_block node.content i)
