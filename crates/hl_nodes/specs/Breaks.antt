-- What breaks each rule, and at which address.
use Rattle.std.specs.Prelude.{◌≡◌, ◌≢◌, ◌⊎◌, ℕ, ◌+◌, ◌/◌, ◌%◌, ◌<◌, ◌≤◌, List, length, sum, count_by, slice_index}
use Rattle.hl_media.specs.History.{Image}
use Rattle.hl_addr.specs.Layout.{Layout, quota}
use Rattle.hl_super.specs.declared.record.Record.{Record}
use Rattle.hl_summary.specs.declared.parts.Summary.{Summary}
use Rattle.hl_tseg.specs.SlotTable.{SlotTable, slot_at}
use Rattle.hl_tseg.specs.declared.slot.Slot.TheVariants.{Staged}
use Rattle.hl_tables.specs.Values.{TableValues, fresh}
use Rattle.hl_tables.specs.TableBlocks.{IsTableBlock, inode_blocks, used_blocks}
use Rattle.hl_inode.specs.declared.inode.Kind.{Kind}
use Rattle.hl_inode.specs.declared.inode.Kind.TheVariants.{File, Dir}
use Rattle.hl_inode.specs.declared.inode.Inode.{Inode}
use Rattle.hl_inode.specs.Inodes.{Spells}
use Rattle.hl_placed.specs.Blocks.{blocks_of}
use Rattle.hl_nodes.specs.declared.rule.Rule.{Rule}
use Rattle.hl_nodes.specs.declared.rule.Rule.TheVariants.{TablePlace, TableBytes, MapEntry, InodeBytes, PointerPlace, PointerBlock, SharedBlock, StrayBlock, DirectoryBytes, DirectoryEntry, LostInode, SlotEntry, LineBytes, LastBlock, Quota, Room}
use Rattle.hl_nodes.specs.Tables.{parts_raised}
use Rattle.hl_nodes.specs.Pointers.{pointer_in, pointer_of}
use Rattle.hl_image.specs.Places.{InLog}
use Rattle.hl_nodes.specs.Blocks.{LiesAway}
use Rattle.hl_tseg.specs.Slots.{HoldsSerial, is_staged}
use Rattle.hl_nodes.specs.Nodes.{HasNodes}
use Rattle.hl_nodes.specs.Directories.{IsInodeIn, HoldsEntries, HasEntry, IsOffName, IsInUse, Leads}
use Rattle.hl_nodes.specs.Lines.{line_start, line_bytes, OnDisk, IsZeroFrom}
use Rattle.hl_tseg.specs.Segments.{SegmentHead, SpellsSegment}
use Rattle.hl_nodes.specs.Rooms.{AreCleanAtMount, LacksRoom}
use Rattle.hl_paths.specs.Nodes.{Nodes, flat_charge}
use Rattle.hl_dir.specs.declared.entry.Entry.{Entry}
use Rattle.hl_nodes.specs.Live.{LiveBlock, IsNamedAt, IsLive}
use Rattle.hl_nodes.specs.Sound.{head_of, IsUsed, IsAhead, IsTaken}

-- table block i lies at the address
abbrev pub IsTableAt : Record → ℕ → ℕ → Type 0
IsTableAt rec i address = (i < length rec.tables) × (slice_index rec.tables i ≡ address)

-- the entry of the map is neither Nothing nor in the log, or number 0 is in use, or the root isn't
abbrev pub IsOffEntry : Layout → ℕ → ℕ → Type 0
IsOffEntry g ino entry = ((entry ≢ 4294967295) × ¬ InLog g entry) ⊎ (((ino ≡ 0) × (entry ≢ 4294967295)) ⊎ ((ino ≡ 1) × (entry ≡ 4294967295)))

-- the block is no inode of the number, or the root's is a file
abbrev pub IsOffInode : ℕ → List ℕ → Type 0
IsOffInode ino block = ((v : Inode) → Spells block v → v.number ≢ ino) ⊎ ((v : Inode) × (ino ≡ 1) × Spells block v × (v.kind ≡ File))

-- the pointer names nothing that a block of such a node may name
pub record IsOffPointer (g : Layout) (slots : SlotTable) (kind : Kind) (pointer : ℕ) : Type 0 where
  pub some : pointer ≢ 4294967295
  pub not_here : ¬ InLog g pointer
  pub not_away : (serial position : ℕ) → kind ≡ File → ¬ LiesAway g slots pointer serial position

-- its pointer block lies outside the log, or one of its 1,036 pointers names what none may
abbrev pub HasOffPointer : Layout → Image → TableValues → Inode → Type 0
HasOffPointer g image t v = ((v.single ≢ 4294967295) × ¬ InLog g v.single) ⊎ ((i : ℕ) × (i < 1036) × IsOffPointer g t.slots v.kind (pointer_of image v i))

-- its pointer block names nothing, or a block past the size
abbrev pub HasOffPointers : Image → Inode → Type 0
HasOffPointers image v = ((i : ℕ) → i < 1024 → pointer_in image v.single i ≡ 4294967295) ⊎ ((i : ℕ) × (i < 1024) × (blocks_of v.size ≤ 12 + i) × (pointer_in image v.single i ≢ 4294967295))

-- the slot's line is no line or another slot's, or too many are staged, or its serial is too great or another slot's
abbrev pub IsOffSlot : Layout → SlotTable → ℕ → ℕ → Type 0
IsOffSlot g t next n = ((line serial : ℕ) × (slot_at t n ≡ Staged line serial)
    × ((g.lines ≤ line) ⊎ (((m other : ℕ) × (m ≢ n) × (slot_at t m ≡ Staged line other)) ⊎ (g.lines < count_by is_staged t.slots + 12))))
    ⊎ ((serial : ℕ) × HoldsSerial (slot_at t n) serial × ((next ≤ serial) ⊎ ((m : ℕ) × (m ≢ n) × HoldsSerial (slot_at t m) serial)))

-- Each rule, and what breaks it at an address. From the third rule on the tables are those of the image, with the chain
-- laid over them.
abbrev pub Breaks : Layout → Image → Record → List Summary → TableValues → Rule → ℕ → Type 0
Breaks g image rec parts t TablePlace address = (i : ℕ) × IsTableAt rec i address × ((¬ InLog g address) ⊎ ((j : ℕ) × (j ≢ i) × IsTableAt rec j address))
Breaks g image rec parts t TableBytes address = (i : ℕ) × IsTableAt rec i address × ¬ IsTableBlock (fresh g) i (image address)
Breaks g image rec parts t MapEntry address = (ino : ℕ) × (ino < g.inodes) × IsTableAt rec (ino / 1024) address × IsOffEntry g ino (slice_index t.inodes ino)
Breaks g image rec parts t InodeBytes address = (ino : ℕ) × (1 ≤ ino) × (ino < g.inodes) × (slice_index t.inodes ino ≡ address) × (address ≢ 4294967295) × IsOffInode ino (image address)
Breaks g image rec parts t PointerPlace address = (ino : ℕ) × (v : Inode) × IsInodeIn g image t ino v address × HasOffPointer g image t v
Breaks g image rec parts t PointerBlock address = (ino own : ℕ) × (v : Inode) × IsInodeIn g image t ino v own × InLog g address × (v.single ≡ address) × HasOffPointers image v
Breaks g image rec parts t SharedBlock address = (x y : LiveBlock) × (x ≢ y) × IsNamedAt g image rec t x address × IsNamedAt g image rec t y address
Breaks g image rec parts t StrayBlock address = (IsLive g image rec t address × ¬ IsUsed g rec parts t (address / g.k)) ⊎ (IsTaken g image rec parts t address × IsAhead g (head_of rec parts) address)
Breaks g image rec parts t DirectoryBytes address = (ino : ℕ) × (v : Inode) × IsInodeIn g image t ino v address × (v.kind ≡ Dir) × ((es : List Entry) → ¬ HoldsEntries g image v es)
Breaks g image rec parts t DirectoryEntry address = (ino k : ℕ) × (e : Entry) × HasEntry g image t ino address k e × IsOffName g image t ino k e.ino
Breaks g image rec parts t LostInode address = (ino : ℕ) × IsInUse g t ino × (slice_index t.inodes ino ≡ address) × ((names : List (List ℕ)) → ¬ Leads g image t 1 names ino)
Breaks g image rec parts t SlotEntry address = (n : ℕ) × (n < sum g.volumes) × IsTableAt rec (inode_blocks t + used_blocks t + n / 256) address × IsOffSlot g t.slots (parts_raised rec.tseg_serial parts) n
Breaks g image rec parts t LineBytes address = (n line serial : ℕ) × (slot_at t.slots n ≡ Staged line serial) × (address ≡ line_start g line)
    × ((head : SegmentHead) → SpellsSegment g.k (line_bytes g image line) head → head.serial ≢ serial)
Breaks g image rec parts t LastBlock address = (ino own : ℕ) × (v : Inode) × IsInodeIn g image t ino v own × (v.kind ≡ File) × (v.size % 4096 ≢ 0)
    × OnDisk g t.slots (pointer_of image v (v.size / 4096)) address × ¬ IsZeroFrom (v.size % 4096) (image address)
Breaks g image rec parts t Quota address = (nodes : Nodes) × HasNodes g image t nodes × (quota g < flat_charge nodes) × (address ≡ 0)
Breaks g image rec parts t Room address = (clean : List ℕ) × AreCleanAtMount g image rec parts t clean × LacksRoom g rec parts clean × (address ≡ length clean)
