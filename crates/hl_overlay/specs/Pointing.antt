-- Where the blocks of a node are to be.
use Rattle.std.specs.Prelude.{◌≡◌, ◌≢◌, ℕ, ◌<◌, ◌≤◌, ◌==◌, if◌then◌else◌, not, true, false, Bool, List, length, drop, slice_index_or, sum_by}
use Rattle.std.specs.List.{list_all}
use Rattle.hl_overlay.specs.declared.pointers.Pointer.{Pointer}
use Rattle.hl_overlay.specs.declared.pointers.Pointer.TheVariants.{Hole, Kept, Moved, New}

-- the pointer that an address of the disk stands for
abbrev pub pointer_to : ℕ → Pointer
pointer_to addr = if addr == 4294967295 then Hole else Kept addr

-- where block i is, and a hole past the greatest node
abbrev pub where_is : List Pointer → ℕ → Pointer
where_is pointers i = slice_index_or pointers i Hole

-- all blocks from this one on are holes
abbrev pub AreHoles : List Pointer → ℕ → Type 0
AreHoles pointers from = (i : ℕ) → from ≤ i → i < 1036 → where_is pointers i ≡ Hole

abbrev pub is_hole_pointer : Pointer → Bool
is_hole_pointer Hole = true
is_hole_pointer (Kept addr) = false
is_hole_pointer (Moved addr serial position) = false
is_hole_pointer (New n) = false

-- a block from 12 on isn't a hole
unfoldable pub has_far : List Pointer → Bool
has_far pointers = not (list_all is_hole_pointer (drop 12 pointers))

-- an address that it tells isn't the one that stands for none
abbrev pub IsAddressed : Pointer → Type 0
IsAddressed Hole = Unit {0}
IsAddressed (Kept addr) = addr ≢ 4294967295
IsAddressed (Moved addr serial position) = addr ≢ 4294967295
IsAddressed (New n) = Unit {0}

-- the disk doesn't have the block there, but with the next unit
abbrev pub IsUnwritten : Pointer → Type 0
IsUnwritten Hole = ⊥
IsUnwritten (Kept addr) = ⊥
IsUnwritten (Moved addr serial position) = Unit {0}
IsUnwritten (New n) = Unit {0}

-- it names none of the overlay's new blocks
abbrev pub IsNotNew : Pointer → Type 0
IsNotNew p = (n : ℕ) → p ≢ New n

-- how many blocks from 12 on aren't holes
abbrev pub blocks_in : Pointer → ℕ
blocks_in p = if is_hole_pointer p then 0 else 1

abbrev pub far_count : List Pointer → ℕ
far_count pointers = sum_by blocks_in (drop 12 pointers)

-- a pointer for each block that a node may have, and how many from 12 on aren't holes
pub record ArePointers (pointers : List Pointer) (far : ℕ) : Type 0 where
  pub count : length pointers ≡ 1036
  pub far_is : far ≡ far_count pointers
