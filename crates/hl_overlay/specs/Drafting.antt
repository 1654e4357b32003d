-- What one node is to be.
use Rattle.std.specs.Prelude.{◌≡◌, ℕ, ◌-◌, ◌<◌, ◌≤◌, ◌==◌, ◌&&◌, not, nat_le, if◌then◌else◌, true, false, Bool, List, Option, Some, None, is_some, is_none, slice_index, slice_set}
use Rattle.std.specs.Option.{ForSome}
use Rattle.hl_inode.specs.declared.inode.Inode.{Inode}
use Rattle.hl_inode.specs.Pointers.{pointers_of}
use Rattle.hl_placed.specs.Blocks.{blocks_of}
use Rattle.hl_overlay.specs.declared.pointers.Pointer.{Pointer}
use Rattle.hl_overlay.specs.declared.draft.NodeDraft.{NodeDraft}
use Rattle.hl_overlay.specs.declared.draft.Shape.{Shape}
use Rattle.hl_overlay.specs.Pointing.{pointer_to, where_is, has_far, AreHoles, IsAddressed, IsUnwritten}

-- how many blocks a node of the shape has
abbrev pub blocks_of_shape : Option Shape → ℕ
blocks_of_shape None = 0
blocks_of_shape (Some shape) = blocks_of shape.size

-- What each draft keeps: a number from 1 on, a size that a node may have, and no block past it. What the disk doesn't
-- have yet is changed, and no pointer block of the disk names it.
pub record IsDraft (d : NodeDraft) : Type 0 where
  pub number : 1 ≤ d.ino
  pub size : ForSome d.shape (λ shape. shape.size ≤ 4243456)
  pub ends : AreHoles d.pointers (blocks_of_shape d.shape)
  pub addressed : (i : ℕ) → IsAddressed (where_is d.pointers i)
  pub changed : (i : ℕ) → IsUnwritten (where_is d.pointers i) → d.changed ≡ true
  pub far : (i : ℕ) → 12 ≤ i → IsUnwritten (where_is d.pointers i) → d.single ≡ 4294967295

-- the draft of a number that isn't in use
pub record IsUnusedDraft (ino : ℕ) (d : NodeDraft) : Type 0 where
  pub number : d.ino ≡ ino
  pub own : d.own ≡ 4294967295
  pub shape : d.shape ≡ None
  pub single : d.single ≡ 4294967295
  pub holes : AreHoles d.pointers 0
  pub unchanged : d.changed ≡ false

-- the draft of a node that was read, by its inode at an address: blocks 0 to 11 are where the inode says
pub record IsReadDraft (own : ℕ) (v : Inode) (d : NodeDraft) : Type 0 where
  pub number : d.ino ≡ v.number
  pub own_is : d.own ≡ own
  pub shape : d.shape ≡ Some (record { kind = v.kind; size = v.size })
  pub single : d.single ≡ v.single
  pub direct : (i : ℕ) → i < 12 → where_is d.pointers i ≡ pointer_to (slice_index v.direct i)
  pub far : AreHoles d.pointers 12
  pub unchanged : d.changed ≡ false

-- its blocks from 12 on, as many as its size has, are where the pointer block says
abbrev pub IsFilled : List ℕ → NodeDraft → Type 0
IsFilled block d = (i : ℕ) → 12 ≤ i → i < blocks_of_shape d.shape
    → where_is d.pointers i ≡ pointer_to (slice_index (pointers_of block) (i - 12))

-- blocks 0 to 11 are where they were
abbrev pub KeepsDirect : NodeDraft → NodeDraft → Type 0
KeepsDirect old new = (i : ℕ) → i < 12 → where_is new.pointers i ≡ where_is old.pointers i

-- the draft with a block elsewhere: its inode is changed, and a pointer block that it had doesn't name the block
abbrev pub with_pointer : NodeDraft → ℕ → Pointer → NodeDraft
with_pointer d i p = record d { pointers = slice_set d.pointers i p; single = if nat_le 12 i then 4294967295 else d.single; changed = true }

-- the draft with another shape
abbrev pub with_shape : NodeDraft → Option Shape → NodeDraft
with_shape d shape = record d { shape = shape; changed = true }

abbrev pub is_changed : NodeDraft → Bool
is_changed d = d.changed

-- the next unit has the inode
abbrev pub needs_inode : NodeDraft → Bool
needs_inode d = d.changed && is_some d.shape

-- and the pointer block
abbrev pub needs_pointer_block : NodeDraft → Bool
needs_pointer_block d = needs_inode d && (d.single == 4294967295) && has_far d.pointers

-- the next unit says that the number is free
abbrev pub is_freed : NodeDraft → Bool
is_freed d = d.changed && is_none d.shape && not (d.own == 4294967295)

-- how many blocks the next unit has of a draft besides its new ones
abbrev pub count_for : NodeDraft → ℕ
count_for d = if needs_inode d then (if needs_pointer_block d then 2 else 1) else 0
