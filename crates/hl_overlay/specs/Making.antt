-- The unit of the drafts.
use Rattle.std.specs.Prelude.{◌≡◌, ◌≢◌, ◌⊎◌, ℕ, ◌+◌, ◌<◌, true, if◌then◌else◌, List, [], ◌∷◌, ◌++◌, length, slice_index, Option, Some, None}
use Rattle.hl_bytes.specs.declared.block.Block.{Block}
use Rattle.hl_bytes.specs.declared.records.BlockRecord.{BlockRecord}
use Rattle.hl_bytes.specs.declared.records.TableRecord.{TableRecord}
use Rattle.hl_inode.specs.declared.inode.Inode.{Inode}
use Rattle.hl_inode.specs.declared.inode.Kind.{Kind}
use Rattle.hl_inode.specs.declared.inode.Kind.TheVariants.{File, Dir}
use Rattle.hl_inode.specs.Inodes.{Spells}
use Rattle.hl_inode.specs.Pointers.{pointers_of}
use Rattle.hl_overlay.specs.declared.pointers.Pointer.{Pointer}
use Rattle.hl_overlay.specs.declared.pointers.Pointer.TheVariants.{Hole, Kept, Moved, New}
use Rattle.hl_overlay.specs.declared.draft.NodeDraft.{NodeDraft}
use Rattle.hl_overlay.specs.declared.draft.Shape.{Shape}
use Rattle.hl_overlay.specs.Pointing.{has_far, where_is}
use Rattle.hl_overlay.specs.DraftTables.{DraftTable, freed_of}

-- the address that a pointer stands for, where the unit's blocks lie at these addresses
abbrev pub resolved : List ℕ → Pointer → ℕ
resolved plan Hole = 4294967295
resolved plan (Kept addr) = addr
resolved plan (Moved addr serial position) = addr
resolved plan (New n) = slice_index plan n

-- the last use that an inode has: a directory has none
abbrev pub used_of : Kind → ℕ → ℕ
used_of File used = used
used_of Dir used = 0

-- the unit has as many blocks as the pointers name
abbrev pub IsOnPlan : List ℕ → Pointer → Type 0
IsOnPlan plan p = (n : ℕ) → p ≡ New n → n < length plan

abbrev pub AreOnPlan : List ℕ → NodeDraft → Type 0
AreOnPlan plan d = (i : ℕ) → IsOnPlan plan (where_is d.pointers i)

-- a pointer block that names the draft's blocks from 12 on
pub record IsPointerBlockOf (plan : List ℕ) (d : NodeDraft) (bytes : List ℕ) : Type 0 where
  pub size : length bytes ≡ 4096
  pub names : (i : ℕ) → i < 1024 → slice_index (pointers_of bytes) i ≡ resolved plan (where_is d.pointers (12 + i))

-- the inode of a draft of this shape, whose pointer block lies at an address
pub record IsInodeOf (plan : List ℕ) (single used : ℕ) (d : NodeDraft) (shape : Shape) (v : Inode) : Type 0 where
  pub number : v.number ≡ d.ino
  pub kind : v.kind ≡ shape.kind
  pub size : v.size ≡ shape.size
  pub used_is : v.used ≡ used_of shape.kind used
  pub single_is : v.single ≡ single
  pub count : length v.direct ≡ 12
  pub direct : (i : ℕ) → i < 12 → slice_index v.direct i ≡ resolved plan (where_is d.pointers i)

-- The pointer block of a draft comes behind the blocks before it, where the draft needs a new one. It lies there, or
-- where it was, or nowhere.
abbrev pub AddsPointerBlock : List ℕ → NodeDraft → List (BlockRecord × Block) → List (BlockRecord × Block) → ℕ → Type 0
AddsPointerBlock plan d old new single =
    ((new ≡ old) × (single ≡ (if has_far d.pointers then d.single else 4294967295)) × (has_far d.pointers ≡ true → d.single ≢ 4294967295))
    ⊎ ((has_far d.pointers ≡ true) × (d.single ≡ 4294967295) × ((block : Block) × (new ≡ old ++ (record { ino = d.ino; index = 4294967294 }, block) ∷ []) × (single ≡ slice_index plan (length old)) × IsPointerBlockOf plan d block.bytes))

-- a block comes behind the blocks before it
abbrev pub followed_by : List (BlockRecord × Block) → ℕ → ℕ → Block → List (BlockRecord × Block)
followed_by blocks ino index block = blocks ++ (record { ino = ino; index = index }, block) ∷ []

-- the inode of a draft comes behind the blocks before it
pub record AddsInode (plan : List ℕ) (single used : ℕ) (d : NodeDraft) (shape : Shape) (old new : List (BlockRecord × Block)) : Type 0 where
  pub block : Block
  pub value : Inode
  pub is : new ≡ old ++ (record { ino = d.ino; index = 4294967295 }, block) ∷ []
  pub spelled : Spells block.bytes value
  pub is_of : IsInodeOf plan single used d shape value

-- the blocks that a draft needs besides its new ones come behind the blocks before them
pub record AddsDraft (plan : List ℕ) (used : ℕ) (d : NodeDraft) (shape : Shape) (old new : List (BlockRecord × Block)) : Type 0 where
  pub count : length d.pointers ≡ 1036
  pub middle : List (BlockRecord × Block)
  pub single : ℕ
  pub pointer_block : AddsPointerBlock plan d old middle single
  pub inode : AddsInode plan single used d shape middle new

abbrev pub AddsWanted : List ℕ → ℕ → NodeDraft → Option Shape → List (BlockRecord × Block) → List (BlockRecord × Block) → Type 0
AddsWanted plan used d None old new = new ≡ old
AddsWanted plan used d (Some shape) old new = AddsDraft plan used d shape old new

-- what the unit is to have of a draft
abbrev pub shape_wanted : NodeDraft → Option Shape
shape_wanted d = if d.changed then d.shape else None

-- what the unit has of a draft comes behind the blocks before it
abbrev pub AddsOne : List ℕ → ℕ → NodeDraft → List (BlockRecord × Block) → List (BlockRecord × Block) → Type 0
AddsOne plan used d old new = AddsWanted plan used d (shape_wanted d) old new

-- the blocks of drafts come one draft after the other
abbrev pub AddsAll : List ℕ → List ℕ → List NodeDraft → List (BlockRecord × Block) → List (BlockRecord × Block) → Type 0
AddsAll plan uses [] old new = new ≡ old
AddsAll plan uses (d ∷ ds) old new = (middle : List (BlockRecord × Block)) × AddsOne plan (slice_index uses d.ino) d old middle × AddsAll plan uses ds middle new

-- the numbers that become free come behind the changes before them
abbrev pub IsFreeing : DraftTable → List TableRecord → List TableRecord → Type 0
IsFreeing drafts old new = new ≡ old ++ freed_of drafts.items
