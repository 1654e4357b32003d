-- The directories of an image, and what they lead to.
use Rattle.std.specs.Prelude.{◌≡◌, ◌≢◌, ◌⊎◌, ℕ, ◌<◌, ◌≤◌, List, [], ◌∷◌, length, slice_index}
use Rattle.std.specs.List.{slice_index_or}
use Rattle.hl_media.specs.History.{Image}
use Rattle.hl_addr.specs.Layout.{Layout}
use Rattle.hl_tables.specs.Values.{TableValues}
use Rattle.hl_inode.specs.declared.inode.Kind.TheVariants.{Dir}
use Rattle.hl_inode.specs.declared.inode.Inode.{Inode}
use Rattle.hl_dir.specs.declared.entry.Entry.{Entry}
use Rattle.hl_dir.specs.Dirs.{AreEntries, dir_bytes}
use Rattle.hl_placed.specs.Blocks.{blocks_of, padded_block}
use Rattle.hl_nodes.specs.Pointers.{pointer_of}
use Rattle.hl_image.specs.Places.{InLog}
use Rattle.hl_nodes.specs.Nodes.{IsInodeAt}

-- the inode of a number stands at the address, by the map
abbrev pub IsInodeIn : Layout → Image → TableValues → ℕ → Inode → ℕ → Type 0
IsInodeIn g image t ino v address = (1 ≤ ino) × (ino < g.inodes) × (slice_index t.inodes ino ≡ address) × IsInodeAt g image ino address v

-- the inode's blocks, without a hole, are the bytes of these entries, and zero past the size
pub record HoldsEntries (g : Layout) (image : Image) (v : Inode) (es : List Entry) : Type 0 where
  pub entries : AreEntries es
  pub size : v.size ≡ length (dir_bytes es)
  pub in_log : (i : ℕ) → i < blocks_of v.size → InLog g (pointer_of image v i)
  pub blocks : (i : ℕ) → i < blocks_of v.size → image (pointer_of image v i) ≡ padded_block (dir_bytes es) i

-- entry k of the directory of this number, whose inode stands at the address
pub record HasEntry (g : Layout) (image : Image) (t : TableValues) (ino address k : ℕ) (e : Entry) : Type 0 where
  pub inode : Inode
  pub there : IsInodeIn g image t ino inode address
  pub dir : inode.kind ≡ Dir
  pub entries : List Entry
  pub holds : HoldsEntries g image inode entries
  pub within : k < length entries
  pub is : slice_index_or entries k e ≡ e

-- a number in use
pub record IsInUse (g : Layout) (t : TableValues) (ino : ℕ) : Type 0 where
  pub low : 1 ≤ ino
  pub high : ino < g.inodes
  pub entry : slice_index t.inodes ino ≢ 4294967295

-- entry k of a directory names a number that isn't in use, or the root, or a number that another entry names
abbrev pub IsOffName : Layout → Image → TableValues → ℕ → ℕ → ℕ → Type 0
IsOffName g image t ino k child = ¬ IsInUse g t child
    ⊎ ((child ≡ 1) ⊎ ((other address j : ℕ) × (e : Entry) × HasEntry g image t other address j e × (e.ino ≡ child) × ((other ≢ ino) ⊎ (j ≢ k))))

-- names lead from one number to another, each by an entry of the directory before
abbrev pub Leads : Layout → Image → TableValues → ℕ → List (List ℕ) → ℕ → Type 0
Leads g image t ino [] to = ino ≡ to
Leads g image t ino (name ∷ names) to = (address k : ℕ) × (e : Entry) × HasEntry g image t ino address k e × (e.name ≡ name) × Leads g image t e.ino names to
