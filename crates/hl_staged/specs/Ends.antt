-- Blocks of the disk that aren't zero past the end of a file.
use Rattle.std.specs.Prelude.{◌≡◌, ◌≢◌, ℕ, ◌+◌, ◌/◌, ◌%◌, slice_get, Option, Some, None}
use Rattle.hl_media.specs.History.{Image}
use Rattle.hl_addr.specs.Layout.{Layout}
use Rattle.hl_tseg.specs.declared.slot.Slot.{Slot}
use Rattle.hl_tseg.specs.declared.slot.Slot.TheVariants.{Staged}
use Rattle.hl_tseg.specs.SlotTable.{SlotTable}
use Rattle.hl_inode.specs.declared.inode.Inode.{Inode}
use Rattle.hl_inode.specs.declared.inode.Kind.TheVariants.{File}
use Rattle.hl_nodes.specs.Pointers.{pointer_of}
use Rattle.hl_nodes.specs.Lines.{line_start, OnDisk, IsZeroFrom}
use Rattle.hl_survey.specs.declared.found.FoundInode.{FoundInode}
use Rattle.hl_survey.specs.Surveys.{ArePointers}
use Rattle.hl_nodes.specs.Telling.{Tells}

-- the slot is staged, and this block of its line is this one of the disk
abbrev pub IsStagedAt : Layout → Slot → ℕ → ℕ → Type 0
IsStagedAt g slot position block = (line serial : ℕ) × (slot ≡ Staged line serial) × (block ≡ line_start g line + position)

-- the block is this one, and isn't zero from a place on
abbrev pub IsNonzero : Image → ℕ → ℕ → ℕ → Type 0
IsNonzero image at from block = (block ≡ at) × ¬ IsZeroFrom from (image block)

-- the pointer to the last block of a file of this size names the block, which isn't zero past the size
abbrev pub IsOffEnd : Layout → SlotTable → Image → ℕ → ℕ → ℕ → Type 0
IsOffEnd g slots image size pointer block = OnDisk g slots pointer block × ¬ IsZeroFrom (size % 4096) (image block)

-- the block is a file's last one, which its size doesn't fill, and isn't zero past the size
abbrev pub IsOffFile : Layout → SlotTable → Image → Inode → ℕ → Type 0
IsOffFile g slots image v block = (v.kind ≡ File) × (v.size % 4096 ≢ 0) × IsOffEnd g slots image v.size (pointer_of image v (v.size / 4096)) block

-- the pointer is that of a file to its last block, which the size doesn't fill
pub record HasEnd (found : FoundInode) (pointer : ℕ) : Type 0 where
  pub file : found.inode.kind ≡ File
  pub part : found.inode.size % 4096 ≢ 0
  pub last : slice_get found.pointers.items (found.inode.size / 4096) ≡ Some pointer

-- what is told of a number, where the inode that was found has its pointers
abbrev pub TellsNumber : Layout → SlotTable → Image → Option FoundInode → Option ℕ → Type 0
TellsNumber g slots image None off = off ≡ None
TellsNumber g slots image (Some found) off = ArePointers g slots image found.inode found.pointers.items → Tells (IsOffFile g slots image found.inode) off
