-- What a unit does with each node.
use Rattle.std.specs.FinMap.{get}
use Rattle.std.specs.Prelude.{◌≡◌, ◌≢◌, ◌⊎◌, ℕ, ◌<◌, ◌≤◌, List, length, slice_index, Option, Some, None, Contains}
use Rattle.std.specs.List.{slice_index_or}
use Rattle.hl_media.specs.History.{Image}
use Rattle.hl_addr.specs.Layout.{Layout}
use Rattle.hl_bytes.specs.declared.records.BlockRecord.{BlockRecord}
use Rattle.hl_bytes.specs.declared.records.TableRecord.{TableRecord}
use Rattle.hl_log.specs.Units.{Brought}
use Rattle.hl_tseg.specs.SlotTable.{SlotTable, slot_at}
use Rattle.hl_inode.specs.declared.inode.Inode.{Inode}
use Rattle.hl_paths.specs.Nodes.{FlatNode, Nodes}
use Rattle.hl_placed.specs.Blocks.{Away, file_block}
use Rattle.hl_tseg.specs.Slots.{HoldsSerial}
use Rattle.hl_nodes.specs.Nodes.{IsInodeAt, IsNodeAt}
use Rattle.hl_nodes.specs.Live.{NodeBlock, record_of, LiesAt, IsNodeBlock}
use Rattle.hl_nodes.specs.Live.NodeBlock.{Own}
use Rattle.hl_nodes.specs.Contents.{Contents}
use Rattle.hl_nodes.specs.Units.{FreesOthers, FreesOnce, TakesIn, IsPlanned, unit_laid}

-- no inode is brought twice
abbrev pub BringsOnce : List BlockRecord → Type 0
BringsOnce records = (i j : ℕ) (d : BlockRecord) → i < j → j < length records
    → (slice_index_or records i d).index ≡ 4294967295 → (slice_index_or records j d).index ≡ 4294967295 → (slice_index_or records i d).ino ≢ (slice_index_or records j d).ino

-- slots go on holding the segments of which the node has blocks
abbrev pub KeepsSlots : SlotTable → SlotTable → FlatNode → Type 0
KeepsSlots before now node = (number i serial position : ℕ) → file_block node.content i ≡ Away serial position → HoldsSerial (slot_at before number) serial → HoldsSerial (slot_at now number) serial

-- the inode of this number is freed
abbrev pub freed : ℕ → TableRecord
freed ino = record { kind = 1; a = ino; b = 0; serial = 0 }

-- a unit says nothing of the node
pub record IsLeftAlone (c : Contents) (u : Brought) (plan : List ℕ) (ino : ℕ) (node : Option FlatNode) : Type 0 where
  pub same : node ≡ get c.nodes ino
  pub not_brought : (r : BlockRecord) → Contains u.records r → r.index ≡ 4294967295 → r.ino ≢ ino
  pub not_freed : (r : TableRecord) → Contains u.changes r → r.kind ≡ 1 → r.a ≢ ino
  pub slots : (old : FlatNode) → get c.nodes ino ≡ Some old → KeepsSlots c.tables.slots (unit_laid c.tables u plan).slots old

-- A unit brings the inode of the node as its block of this index. Each image that takes the unit in has the node there,
-- and each block of the node is one of the unit's, or lies where it lay before.
pub record IsBroughtAs (g : Layout) (before : Image) (c : Contents) (u : Brought) (plan : List ℕ) (ino index : ℕ) (node : Option FlatNode) : Type 0 where
  pub there : index < length u.records
  pub own : slice_index_or u.records index (record_of ino Own) ≡ record_of ino Own
  pub value : FlatNode
  pub is : node ≡ Some value
  pub stands : (image : Image) → TakesIn g before c u plan image → IsNodeAt g (unit_laid c.tables u plan).slots image ino (slice_index plan index) value
  pub blocks : (image : Image) → TakesIn g before c u plan image → (v : Inode) → IsInodeAt g image ino (slice_index plan index) v → (block : NodeBlock) (address : ℕ)
      → LiesAt g image (slice_index plan index) v block address → IsPlanned u plan (record_of ino block) address ⊎ IsNodeBlock g before c.tables ino block address

-- the node stays, or its inode is freed, or is brought as the block of this index
pub data Fate : Type 0 where
  Kept : Fate
  Freed : Fate
  Written : (index : ℕ) → Fate

abbrev pub HasFate : Layout → Image → Contents → Brought → List ℕ → ℕ → Option FlatNode → Fate → Type 0
HasFate g before c u plan ino node Kept = IsLeftAlone c u plan ino node
HasFate g before c u plan ino node Freed = (node ≡ None) × Contains u.changes (freed ino)
HasFate g before c u plan ino node (Written index) = IsBroughtAs g before c u plan ino index node

-- A unit changes nodes one by one: it brings each inode at most once and frees each at most once, frees no inode that it
-- brings, and each node has its fate.
pub record Changes (g : Layout) (before : Image) (c : Contents) (u : Brought) (plan : List ℕ) (nodes : Nodes) : Type 0 where
  pub brings_once : BringsOnce u.records
  pub frees_others : FreesOthers u.records u.changes
  pub frees_once : FreesOnce u.changes
  pub fates : (ino : ℕ) → 1 ≤ ino → ino < g.inodes → (fate : Fate) × HasFate g before c u plan ino (get nodes ino) fate
  pub zero : get nodes 0 ≡ None
  pub past : (ino : ℕ) → g.inodes ≤ ino → get nodes ino ≡ None
