-- The bytes of a directory, by its pointers.
use Rattle.std.specs.Prelude.{◌≡◌, ℕ, ◌-◌, ◌*◌, ◌<◌, List, ◌++◌, length, take, slice_index}
use Rattle.hl_media.specs.History.{Image}
use Rattle.hl_addr.specs.Layout.{Layout}
use Rattle.hl_bytes.specs.Fields.{zeros}
use Rattle.hl_dir.specs.declared.entry.Entry.{Entry}
use Rattle.hl_dir.specs.Dirs.{Spells}
use Rattle.hl_inode.specs.declared.inode.Inode.{Inode}
use Rattle.hl_image.specs.Places.{InLog, log_end}
use Rattle.hl_placed.specs.Blocks.{blocks_of, padded_block}
use Rattle.hl_nodes.specs.Pointers.{pointer_of}

-- each of the pointers is an address in the log
pub record AreInLog (g : Layout) (pointers : List ℕ) : Type 0 where
  pub in_log : (i : ℕ) → i < length pointers → InLog g (slice_index pointers i)
  pub within : (i : ℕ) → i < length pointers → slice_index pointers i < log_end g

-- some of the pointers is none
pub record HasOutside (g : Layout) (pointers : List ℕ) : Type 0 where
  pub index : ℕ
  pub low : index < length pointers
  pub outside : ¬ InLog g (slice_index pointers index)

-- the bytes are those of the blocks at these addresses, one behind the other
pub record AreBlocks (image : Image) (pointers bytes : List ℕ) : Type 0 where
  pub size : length bytes ≡ 4096 * length pointers
  pub blocks : (i : ℕ) → i < length pointers → image (slice_index pointers i) ≡ padded_block bytes i

-- the bytes spell entries up to a size, and are zero from there on
pub record SpellsTo (size : ℕ) (bytes : List ℕ) (es : List Entry) : Type 0 where
  pub spelled : Spells (take size bytes) es
  pub rest : take (length bytes) bytes ≡ take size bytes ++ zeros (length bytes - size)

-- they are so for no entries
abbrev pub SpellsNone : ℕ → List ℕ → Type 0
SpellsNone size bytes = (es : List Entry) → ¬ SpellsTo size bytes es

-- these are the pointers to the blocks that the inode's size takes
pub record AreOf (image : Image) (v : Inode) (pointers : List ℕ) : Type 0 where
  pub count : length pointers ≡ blocks_of v.size
  pub are : (i : ℕ) → i < blocks_of v.size → slice_index pointers i ≡ pointer_of image v i
