-- Lists of live blocks, each by the record that a part has of it, with its address.
use Rattle.std.specs.Prelude.{◌≡◌, ◌⊎◌, ℕ, ◌<◌, ◌≤◌, List, [], ◌∷◌, ◌++◌, All, Contains, slice_index}
use Rattle.hl_media.specs.History.{Image}
use Rattle.hl_addr.specs.Layout.{Layout}
use Rattle.hl_bytes.specs.declared.records.BlockRecord.{BlockRecord}
use Rattle.hl_super.specs.declared.record.Record.{Record}
use Rattle.hl_inode.specs.declared.inode.Inode.{Inode}
use Rattle.hl_tables.specs.Values.{TableValues}
use Rattle.hl_nodes.specs.Pointers.{HasPointerBlock, pointer_of}
use Rattle.hl_image.specs.Places.{InLog}
use Rattle.hl_nodes.specs.Nodes.{IsInodeAt}
use Rattle.hl_nodes.specs.Live.{NodeBlock, LiesAt, IsNodeBlock, LiveBlock, IsLiveAt, live_record}
use Rattle.hl_nodes.specs.Live.NodeBlock.{Content}
use Rattle.hl_nodes.specs.Live.LiveBlock.{Table, OfNode}
use Rattle.hl_found.specs.declared.live.LiveAt.{LiveAt}

-- the block by its record, with an address
abbrev pub listed : LiveBlock → ℕ → LiveAt
listed x address = record { block = live_record x; address = address }

-- some block of which this holds at its address
abbrev pub IsListed : (LiveBlock → ℕ → Type 0) → LiveAt → Type 0
IsListed P e = (x : LiveBlock) × (live_record x ≡ e.block) × P x e.address

-- the list has each block of which this holds at an address, and no other
pub record Lists (P : LiveBlock → ℕ → Type 0) (items : List LiveAt) : Type 0 where
  pub sound : All (IsListed P) items
  pub whole : (x : LiveBlock) (address : ℕ) → P x address → Contains items (listed x address)

-- the list with one block more, where its address is one of the log
abbrev pub IsPushed : Layout → BlockRecord → ℕ → List LiveAt → List LiveAt → Type 0
IsPushed g block address old new = (InLog g address × (new ≡ old ++ record { block = block; address = address } ∷ [])) ⊎ ((InLog g address → ⊥) × (new ≡ old))

-- one of the first table blocks
abbrev pub IsTableBefore : List ℕ → ℕ → LiveBlock → ℕ → Type 0
IsTableBefore tables n x address = (i : ℕ) × (x ≡ Table i) × (i < n) × (slice_index tables i ≡ address)

-- one of the first blocks of an inode's contents, in the log
abbrev pub IsContent : Layout → Image → ℕ → Inode → ℕ → LiveBlock → ℕ → Type 0
IsContent g image ino v n x address = (i : ℕ) × (x ≡ OfNode ino (Content i)) × (i < n) × InLog g address × (pointer_of image v i ≡ address)

-- a block of the node whose inode stands at an address
abbrev pub IsOfInode : Layout → Image → ℕ → ℕ → Inode → LiveBlock → ℕ → Type 0
IsOfInode g image ino own v x address = (b : NodeBlock) × (x ≡ OfNode ino b) × LiesAt g image own v b address

-- a block of the node of a number
abbrev pub IsOfNumber : Layout → Image → TableValues → ℕ → LiveBlock → ℕ → Type 0
IsOfNumber g image t ino x address = (b : NodeBlock) × (x ≡ OfNode ino b) × IsNodeBlock g image t ino b address

-- each inode that the tables name has a pointer block, or none
abbrev pub HavePointers : Layout → Image → TableValues → Type 0
HavePointers g image t = (ino : ℕ) (v : Inode) → 1 ≤ ino → ino < g.inodes → IsInodeAt g image ino (slice_index t.inodes ino) v → HasPointerBlock g image v

-- a table block, or a block of a node with a lesser number
abbrev pub IsBefore : ℕ → LiveBlock → Type 0
IsBefore number (Table i) = Unit {0}
IsBefore number (OfNode ino b) = ino < number

-- a live block with a lesser number
abbrev pub IsLiveBefore : Layout → Image → Record → TableValues → ℕ → LiveBlock → ℕ → Type 0
IsLiveBefore g image rec t number x address = IsLiveAt g image rec t x address × IsBefore number x

-- no two live blocks of the image lie at one address
abbrev pub LieApart : Layout → Image → Record → TableValues → Type 0
LieApart g image rec t = (x y : LiveBlock) (address : ℕ) → IsLiveAt g image rec t x address → IsLiveAt g image rec t y address → x ≡ y

-- of two items at one address both are one block
abbrev pub AreOne : LiveAt → LiveAt → Type 0
AreOne one other = one.address ≡ other.address → one.block ≡ other.block
