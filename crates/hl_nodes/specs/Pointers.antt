-- The pointers of an inode, its own and those in its pointer block.
use Rattle.std.specs.Prelude.{◌≡◌, ◌≢◌, ◌⊎◌, ℕ, ◌+◌, ◌-◌, ◌<◌, ◌≤◌, ◌==◌, nat_lt, if◌then◌else◌, slice_index, ◌*◌, List, length}
use Rattle.hl_media.specs.History.{Image}
use Rattle.hl_addr.specs.Layout.{Layout}
use Rattle.hl_image.specs.Places.{InLog}
use Rattle.hl_inode.specs.Pointers.{pointers_of}
use Rattle.hl_inode.specs.declared.inode.Inode.{Inode}
use Rattle.hl_placed.specs.Blocks.{blocks_of}

-- pointer i of the pointer block at an address, and Nothing where there is no pointer block
unfoldable pub pointer_in : Image → ℕ → ℕ → ℕ
pointer_in image address i = if address == 4294967295 then 4294967295 else slice_index (pointers_of (image address)) i

-- the pointer of an inode to its block i: blocks 0 to 11 by its own pointers, those behind by its pointer block
unfoldable pub pointer_of : Image → Inode → ℕ → ℕ
pointer_of image v i = if nat_lt i 12 then slice_index v.direct i else pointer_in image v.single (i - 12)

-- A pointer block for the blocks from this one on: it lies in the log, names a block, and none past the size.
pub record IsPointerBlock (g : Layout) (image : Image) (size address from : ℕ) : Type 0 where
  pub in_log : InLog g address
  pub named : ℕ
  pub named_low : named < 1024
  pub names : pointer_in image address named ≢ 4294967295
  pub within : (i : ℕ) → i < 1024 → blocks_of size ≤ from + i → pointer_in image address i ≡ 4294967295

-- an inode has a pointer block, or has none
abbrev pub HasPointerBlock : Layout → Image → Inode → Type 0
HasPointerBlock g image v = (v.single ≡ 4294967295) ⊎ IsPointerBlock g image v.size v.single 12

-- the bytes of an image reach to the block at the address, if it is one
abbrev pub ReachesBlock : List ℕ → ℕ → Type 0
ReachesBlock bytes address = address ≢ 4294967295 → 4096 * (address + 1) ≤ length bytes
