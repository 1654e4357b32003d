-- The drafts with their new blocks.
use Rattle.std.specs.Prelude.{◌≡◌, ◌≢◌, ◌⊎◌, ℕ, ◌+◌, ◌<◌, ◌≤◌, ◌^◌, List, [], length, slice_get, slice_set, Option, Some, None, option_map, unwrap_or}
use Rattle.hl_bytes.specs.declared.block.Block.{Block}
use Rattle.hl_bytes.specs.declared.records.BlockRecord.{BlockRecord}
use Rattle.hl_overlay.specs.declared.pointers.Pointer.{Pointer}
use Rattle.hl_overlay.specs.declared.pointers.Pointer.TheVariants.{Hole, Kept, Moved, New}
use Rattle.hl_overlay.specs.declared.draft.NodeDraft.{NodeDraft}
use Rattle.hl_overlay.specs.declared.draft.Shape.{Shape}
use Rattle.hl_overlay.specs.declared.overlay.BlockNow.{BlockNow}
use Rattle.hl_overlay.specs.declared.overlay.BlockNow.TheVariants as now
use Rattle.hl_overlay.specs.Pointing.{where_is}
use Rattle.hl_overlay.specs.Drafting.{IsDraft, with_pointer, with_shape}
use Rattle.hl_overlay.specs.DraftTables.{DraftTable, IsDraftTable, Redrafts, draft_of, others_of}

-- the drafts, the new blocks in their order, and for how many more there is room
pub record OverlayValue : Type 0 where
  pub drafts : DraftTable
  pub blocks : List (BlockRecord × Block)
  pub room : ℕ

-- where a block of a drafted node is
abbrev pub where_in : DraftTable → ℕ → ℕ → Option Pointer
where_in t ino i = option_map (λ d. where_is d.pointers i) (draft_of t ino)

-- The new blocks are those that a pointer names: each pointer to one names the block that has its record, and each block
-- is named by the pointer that its record tells. No node has more than 1,036 blocks.
pub record AreNamed (numbers : ℕ) (at : ℕ → ℕ → Option Pointer) (blocks : List (BlockRecord × Block)) : Type 0 where
  pub named : (ino i n : ℕ) → ino < numbers → at ino i ≡ Some (New n) → (block : BlockRecord × Block) × (slice_get blocks n ≡ Some block) × (block.0 ≡ record { ino = ino; index = i })
  pub owned : (n : ℕ) (block : BlockRecord × Block) → slice_get blocks n ≡ Some block → (block.0.ino < numbers) × (at block.0.ino block.0.index ≡ Some (New n))
  pub small : (n : ℕ) (block : BlockRecord × Block) → slice_get blocks n ≡ Some block → block.0.index < 1036

-- the same of all new blocks but one, which no pointer names
pub record AreNamedBut (but numbers : ℕ) (at : ℕ → ℕ → Option Pointer) (blocks : List (BlockRecord × Block)) : Type 0 where
  pub named : (ino i n : ℕ) → ino < numbers → at ino i ≡ Some (New n) → (n ≢ but) × ((block : BlockRecord × Block) × (slice_get blocks n ≡ Some block) × (block.0 ≡ record { ino = ino; index = i }))
  pub owned : (n : ℕ) (block : BlockRecord × Block) → slice_get blocks n ≡ Some block → n ≢ but → (block.0.ino < numbers) × (at block.0.ino block.0.index ≡ Some (New n))
  pub small : (n : ℕ) (block : BlockRecord × Block) → slice_get blocks n ≡ Some block → block.0.index < 1036

abbrev pub AreOthersNamed : ℕ → DraftTable → List (BlockRecord × Block) → Type 0
AreOthersNamed but t blocks = AreNamedBut but (length t.places) (where_in t) blocks

-- the new blocks are those that the drafts name
abbrev pub IsOverlay : OverlayValue → Type 0
IsOverlay v = AreNamed (length v.drafts.places) (where_in v.drafts) v.blocks

-- the drafts are a table, and name the new blocks
pub record IsWholeOverlay (v : OverlayValue) : Type 0 where
  pub table : IsDraftTable v.drafts
  pub named : IsOverlay v

-- What stands in a block of a drafted node: zeros; what the disk has at an address; a block of a tertiary segment, at an
-- address that the next unit gives it; or new bytes.
pub data Holding : Type 0 where
  Zeros : Holding
  Remains : (addr : ℕ) → Holding
  GoesAway : (addr serial position : ℕ) → Holding
  Fresh : (bytes : List ℕ) → Holding

abbrev pub new_bytes : List (BlockRecord × Block) → ℕ → List ℕ
new_bytes blocks n = unwrap_or (option_map (λ b. b.1.bytes) (slice_get blocks n)) []

abbrev pub holding_of : List (BlockRecord × Block) → Pointer → Holding
holding_of blocks Hole = Zeros
holding_of blocks (Kept addr) = Remains addr
holding_of blocks (Moved addr serial position) = GoesAway addr serial position
holding_of blocks (New n) = Fresh (new_bytes blocks n)

abbrev pub holding : OverlayValue → ℕ → ℕ → Option Holding
holding v ino i = option_map (holding_of v.blocks) (where_in v.drafts ino i)

-- how many blocks the next unit has: the new ones, inodes and pointer blocks
abbrev pub unit_blocks : OverlayValue → ℕ
unit_blocks v = length v.blocks + others_of v.drafts

-- room for so many more blocks was taken, and their numbers have 32 bits
pub record HasBlockRoom (count capacity room : ℕ) : Type 0 where
  pub there : count + room ≤ capacity
  pub small : count + room < 2 ^ 32

-- the room with so many more blocks
abbrev pub HasRoomFor : OverlayValue → ℕ → ℕ → Type 0
HasRoomFor v count room = (room ≡ v.room + count) × (length v.blocks + room < 2 ^ 32)

-- an overlay in which no number is drafted
pub record IsEmpty (inodes : ℕ) (v : OverlayValue) : Type 0 where
  pub none : v.drafts.items ≡ []
  pub numbers : length v.drafts.places ≡ inodes
  pub blocks : v.blocks ≡ []
  pub room : v.room ≡ 0

-- a draft without its pointers
abbrev pub without_pointers : NodeDraft → NodeDraft
without_pointers d = record d { pointers = [] }

-- A block of a node was changed: no draft but this one differs in anything but its pointers, and this one is changed and
-- has no pointer block that named the block.
pub record KeepsDrafts (old new : OverlayValue) (ino i : ℕ) : Type 0 where
  pub others : (q : ℕ) → q < length old.drafts.places → q ≢ ino → option_map without_pointers (draft_of new.drafts q) ≡ option_map without_pointers (draft_of old.drafts q)
  pub own : option_map without_pointers (draft_of new.drafts ino) ≡ option_map (λ d. without_pointers (with_pointer d i Hole)) (draft_of old.drafts ino)

-- what is held is what stands there
abbrev pub IsBlockNow : Option BlockNow → Option Holding → Type 0
IsBlockNow None holding = holding ≡ None
IsBlockNow (Some now.Hole) holding = holding ≡ Some Zeros
IsBlockNow (Some (now.Kept addr)) holding = holding ≡ Some (Remains addr)
IsBlockNow (Some (now.Moved addr serial position)) holding = holding ≡ Some (GoesAway addr serial position)
IsBlockNow (Some (now.Bytes bytes)) holding = holding ≡ Some (Fresh bytes.now)

-- the bytes that are held for a block are a whole block
abbrev pub IsWholeBlock : BlockNow → Type 0
IsWholeBlock now.Hole = Unit {0}
IsWholeBlock (now.Kept addr) = Unit {0}
IsWholeBlock (now.Moved addr serial position) = Unit {0}
IsWholeBlock (now.Bytes bytes) = length bytes.now ≡ 4096

-- one block of a drafted node has something else, and all others have what they had
pub record PutsBlock (old new : OverlayValue) (ino i : ℕ) (now : Holding) : Type 0 where
  pub here : holding new ino i ≡ Some now
  pub others : (jno j : ℕ) → jno < length old.drafts.places → (jno ≢ ino) ⊎ (j ≢ i) → holding new jno j ≡ holding old jno j
  pub numbers : length new.drafts.places ≡ length old.drafts.places

-- a drafted node is to be of another shape
abbrev pub Shapes : DraftTable → DraftTable → ℕ → Option Shape → Type 0
Shapes old new ino shape = (d : NodeDraft) → draft_of old ino ≡ Some d → Redrafts old new ino (with_shape d shape)

-- the block is one that the draft of the number may have
abbrev pub IsDraftBlock : DraftTable → ℕ → ℕ → Type 0
IsDraftBlock t ino i = (d : NodeDraft) → draft_of t ino ≡ Some d → IsDraft d × (length d.pointers ≡ 1036) × (i < 1036)

-- a block of a drafted node is to be elsewhere
abbrev pub Points : DraftTable → DraftTable → ℕ → ℕ → Pointer → Type 0
Points old new ino i p = (d : NodeDraft) → draft_of old ino ≡ Some d → Redrafts old new ino (with_pointer d i p)

-- a new block has other bytes, and all else stays
pub record WritesOver (old new : OverlayValue) (n : ℕ) (bytes : List ℕ) : Type 0 where
  pub block : BlockRecord × Block
  pub was : slice_get old.blocks n ≡ Some block
  pub is : new ≡ record old { blocks = slice_set old.blocks n (block.0, record { bytes = bytes }); room = new.room }
  pub room : new.room + 1 ≡ old.room

-- A new block that no pointer named is gone, and the others are named. What stands in each block stays, and so do the
-- drafts but for their pointers.
pub record DropsBlock (old new : DraftTable) (blocks left : List (BlockRecord × Block)) : Type 0 where
  pub named : AreNamed (length new.places) (where_in new) left
  pub stays : (ino i : ℕ) → ino < length old.places → option_map (holding_of left) (where_in new ino i) ≡ option_map (holding_of blocks) (where_in old ino i)
  pub heads : (ino : ℕ) → ino < length old.places → option_map without_pointers (draft_of new ino) ≡ option_map without_pointers (draft_of old ino)
  pub numbers : length new.places ≡ length old.places
