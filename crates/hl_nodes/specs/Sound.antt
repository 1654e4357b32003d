-- A sound image, as far as no directory and no content is looked into.
use Rattle.std.specs.FinMap.{get}
use Rattle.std.specs.Prelude.{◌≡◌, ◌⊎◌, ℕ, ◌+◌, ◌-◌, ◌*◌, ◌/◌, ◌<◌, ◌≤◌, true, false, List, length, count_by, slice_index, Some}
use Rattle.std.specs.List.{slice_index_or}
use Rattle.hl_media.specs.History.{Image}
use Rattle.hl_addr.specs.Layout.{Layout}
use Rattle.hl_super.specs.declared.record.Record.{Record}
use Rattle.hl_summary.specs.declared.parts.Summary.{Summary}
use Rattle.hl_image.specs.declared.place.LogPlace.{LogPlace}
use Rattle.hl_image.specs.Places.{block_at}
use Rattle.hl_image.specs.Chain.{Covers, end_of}
use Rattle.hl_image.specs.Newest.{start_of}
use Rattle.hl_tseg.specs.SlotTable.{SlotTable, slot_at}
use Rattle.hl_tseg.specs.declared.slot.Slot.TheVariants.{Staged}
use Rattle.hl_tables.specs.Values.{TableValues}
use Rattle.hl_inode.specs.declared.inode.Kind.TheVariants.{Dir}
use Rattle.hl_paths.specs.Nodes.{FlatNode, Nodes}
use Rattle.hl_placed.specs.Blocks.{Away}
use Rattle.hl_placed.specs.Blocks as blocks
use Rattle.hl_tseg.specs.Slots.{HoldsSerial, is_staged}
use Rattle.hl_nodes.specs.Live.{LiveBlock, IsLiveAt, IsLive}
use Rattle.hl_log.specs.Loads.{AreOf}
use Rattle.hl_log.specs.Units.{Brought}
use Rattle.hl_nodes.specs.Contents.{Contents, HasContents, next_tertiary}

-- where the next part would stand
abbrev pub head_of : Record → List Summary → LogPlace
head_of rec parts = end_of (start_of rec) parts

-- a log segment is marked used
abbrev pub IsMarked : TableValues → ℕ → Type 0
IsMarked t seg = (1 ≤ seg) × (slice_index_or t.used (seg - 1) false ≡ true)

-- a log segment is used: it is marked so, or it holds a table block or a block of a part of the chain, or the head
abbrev pub IsUsed : Layout → Record → List Summary → TableValues → ℕ → Type 0
IsUsed g rec parts t seg = IsMarked t seg
    ⊎ (((i : ℕ) × (i < length rec.tables) × (slice_index rec.tables i / g.k ≡ seg))
    ⊎ (((b : ℕ) × Covers g (start_of rec) parts b × (b / g.k ≡ seg)) ⊎ ((head_of rec parts).seg ≡ seg)))

-- a block of the head's segment, at the head or past it
abbrev pub IsAhead : Layout → LogPlace → ℕ → Type 0
IsAhead g head address = (block_at g head ≤ address) × (address < g.k * head.seg + g.k)

-- a block of a part of the chain, or a live one
abbrev pub IsTaken : Layout → Image → Record → List Summary → TableValues → ℕ → Type 0
IsTaken g image rec parts t address = IsLive g image rec t address ⊎ Covers g (start_of rec) parts address

-- slots with possible lines and serials: lines of the disk, one slot to a line and one to a serial, twelve lines left
-- over, and serials below the next one
pub record AreSlots (g : Layout) (t : SlotTable) (next : ℕ) : Type 0 where
  pub lines : (n line serial : ℕ) → slot_at t n ≡ Staged line serial → line < g.lines
  pub one_line : (m n line a b : ℕ) → slot_at t m ≡ Staged line a → slot_at t n ≡ Staged line b → m ≡ n
  pub few : count_by is_staged t.slots + 12 ≤ g.lines
  pub below : (n serial : ℕ) → HoldsSerial (slot_at t n) serial → serial < next
  pub one_slot : (m n serial : ℕ) → HoldsSerial (slot_at t m) serial → HoldsSerial (slot_at t n) serial → m ≡ n

-- no block of a tertiary segment is a block of two nodes, or two blocks of one
abbrev pub AwayOnce : Nodes → Type 0
AwayOnce nodes = (m n i j serial position : ℕ) (x y : FlatNode) → get nodes m ≡ Some x → get nodes n ≡ Some y
    → blocks.file_block x.content i ≡ Away serial position → blocks.file_block y.content j ≡ Away serial position → (m ≡ n) × (i ≡ j)

-- Contents of an image are sound. That their tables and nodes stand there at all says the rest: that table blocks lie in
-- the log and spell tables, that each entry of the map is Nothing or names an inode of its number, that pointers name
-- blocks that they may name, and that pointer blocks name a block and none past the size.
pub record IsSound (g : Layout) (image : Image) (c : Contents) : Type 0 where
  pub tables_once : (i j : ℕ) → i < length c.rec.tables → j < length c.rec.tables → slice_index c.rec.tables i ≡ slice_index c.rec.tables j → i ≡ j
  pub no_zero : slice_index c.tables.inodes 0 ≡ 4294967295
  pub root : FlatNode
  pub root_is : get c.nodes 1 ≡ Some root
  pub root_dir : root.kind ≡ Dir
  pub one_block : (x y : LiveBlock) (address : ℕ) → IsLiveAt g image c.rec c.tables x address → IsLiveAt g image c.rec c.tables y address → x ≡ y
  pub away_once : AwayOnce c.nodes
  pub used : (address : ℕ) → IsLive g image c.rec c.tables address → IsUsed g c.rec c.parts c.tables (address / g.k)
  pub behind : (address : ℕ) → IsTaken g image c.rec c.parts c.tables address → IsAhead g (head_of c.rec c.parts) address → ⊥
  pub slots : AreSlots g c.tables.slots (next_tertiary c)

-- the image has the contents, and they are sound
pub record HasSound (g : Layout) (image : Image) (c : Contents) : Type 0 where
  pub has : HasContents g image c
  pub sound : IsSound g image c

-- what a unit is to bring besides, so that the contents behind it are sound: blocks and changes of the site, a root that
-- is a directory, no block of a segment for two, and possible slots
pub record KeepsSound (g : Layout) (u : Brought) (after : Contents) : Type 0 where
  pub of : AreOf g u.records u.changes
  pub root : FlatNode
  pub root_is : get after.nodes 1 ≡ Some root
  pub root_dir : root.kind ≡ Dir
  pub away_once : AwayOnce after.nodes
  pub slots : AreSlots g after.tables.slots (next_tertiary after)
