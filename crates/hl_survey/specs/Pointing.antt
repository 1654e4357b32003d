-- The pointers of an inode, by the bytes of its pointer block.
use Rattle.std.specs.Prelude.{◌≡◌, ◌≢◌, ◌⊎◌, ℕ, ◌+◌, ◌<◌, ◌≤◌, List, slice_index}
use Rattle.hl_media.specs.History.{Image}
use Rattle.hl_addr.specs.Layout.{Layout}
use Rattle.hl_tseg.specs.SlotTable.{SlotTable}
use Rattle.hl_tseg.specs.Slots.{HoldsSerial}
use Rattle.hl_tseg.specs.declared.slot.Slot.{Slot}
use Rattle.hl_inode.specs.declared.inode.Kind.{Kind}
use Rattle.hl_inode.specs.declared.inode.Kind.TheVariants.{File}
use Rattle.hl_inode.specs.declared.inode.Inode.{Inode}
use Rattle.hl_inode.specs.Pointers.{pointers_of}
use Rattle.hl_placed.specs.Blocks.{blocks_of}
use Rattle.hl_nodes.specs.Pointers.{HasPointerBlock}
use Rattle.hl_survey.specs.Surveys.{ArePointers}

-- the slot holds a segment with a block of such a node at this position, of the most that a segment
-- may have
pub record HoldsBlock (slot : Slot) (kind : Kind) (position most : ℕ) : Type 0 where
  pub file : kind ≡ File
  pub serial : ℕ
  pub holds : HoldsSerial slot serial
  pub low : 1 ≤ position
  pub high : position ≤ most

-- pointer i of a pointer block
abbrev pub number_at : List ℕ → ℕ → ℕ
number_at block i = slice_index (pointers_of block) i

-- the pointer block names a block, and none past the size
pub record NamesOwnBlocks (size : ℕ) (block : List ℕ) : Type 0 where
  pub named : ℕ
  pub low : named < 1024
  pub names : number_at block named ≢ 4294967295
  pub within : (i : ℕ) → i < 1024 → blocks_of size ≤ 12 + i → number_at block i ≡ 4294967295

-- a pointer past the size
pub record HasPast (size : ℕ) (block : List ℕ) : Type 0 where
  pub index : ℕ
  pub low : index < 1024
  pub past : blocks_of size ≤ 12 + index
  pub names : number_at block index ≢ 4294967295

-- the pointer block names none, or one past the size
abbrev pub IsOffBlock : ℕ → List ℕ → Type 0
IsOffBlock size block = ((i : ℕ) → i < 1024 → number_at block i ≡ 4294967295) ⊎ HasPast size block

-- these are the bytes of the inode's pointer block, where it has one
abbrev pub HasBlock : Image → Inode → List ℕ → Type 0
HasBlock image v block = v.single ≢ 4294967295 → image v.single ≡ block

-- the inode has no pointer block, or one that is in order, with these bytes
pub record SpellsPointers (g : Layout) (image : Image) (v : Inode) (block : List ℕ) : Type 0 where
  pub has : HasPointerBlock g image v
  pub is : HasBlock image v block

-- the pointer block of an inode is in order, and these are its pointers
pub record HasPointers (g : Layout) (slots : SlotTable) (image : Image) (v : Inode)
    (pointers : List ℕ) : Type 0 where
  pub block : HasPointerBlock g image v
  pub are : ArePointers g slots image v pointers
