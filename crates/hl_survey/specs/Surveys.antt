-- What a survey finds of an image, number by number.
use Rattle.std.specs.Prelude.{◌≡◌, ◌≢◌, ◌⊎◌, ℕ, ◌<◌, List, length, slice_index, Option, Some, None}
use Rattle.std.specs.List.{slice_index_or}
use Rattle.hl_media.specs.History.{Image}
use Rattle.hl_addr.specs.Layout.{Layout}
use Rattle.hl_tseg.specs.SlotTable.{SlotTable}
use Rattle.hl_tables.specs.Values.{TableValues}
use Rattle.hl_inode.specs.declared.inode.Kind.{Kind}
use Rattle.hl_inode.specs.declared.inode.Kind.TheVariants.{File, Dir}
use Rattle.hl_inode.specs.declared.inode.Inode.{Inode}
use Rattle.hl_inode.specs.Inodes.{Spells}
use Rattle.hl_placed.specs.Blocks.{blocks_of}
use Rattle.hl_image.specs.Places.{InLog}
use Rattle.hl_nodes.specs.declared.rule.Rule.{Rule}
use Rattle.hl_nodes.specs.declared.rule.Rule.TheVariants.{MapEntry, InodeBytes, PointerPlace, PointerBlock}
use Rattle.hl_nodes.specs.Blocks.{LiesAway}
use Rattle.hl_nodes.specs.Pointers.{pointer_of, HasPointerBlock}
use Rattle.hl_nodes.specs.Directories.{IsInodeIn}
use Rattle.hl_survey.specs.declared.found.FoundInode.{FoundInode}

-- the rules that a survey tries
abbrev pub IsSurveyRule : Rule → Type 0
IsSurveyRule rule =
    (rule ≡ MapEntry) ⊎ ((rule ≡ InodeBytes) ⊎ ((rule ≡ PointerPlace) ⊎ (rule ≡ PointerBlock)))

-- an entry that the map may have for a number: Nothing or an address in the log, Nothing for number 0,
-- and not for the root
pub record IsEntry (g : Layout) (ino entry : ℕ) : Type 0 where
  pub zero : ino ≡ 0 → entry ≡ 4294967295
  pub root : ino ≡ 1 → entry ≢ 4294967295
  pub in_log : entry ≢ 4294967295 → InLog g entry

-- the block spells an inode of the number, and a directory for the root
pub record IsInodeOf (ino : ℕ) (block : List ℕ) (v : Inode) : Type 0 where
  pub spelled : Spells block v
  pub number : v.number ≡ ino
  pub root : ino ≡ 1 → v.kind ≡ Dir

-- the pointer names a block of a file, away in a segment that is staged or home
pub record IsAwayPointer (g : Layout) (slots : SlotTable) (kind : Kind) (pointer : ℕ) : Type 0 where
  pub file : kind ≡ File
  pub serial : ℕ
  pub position : ℕ
  pub lies : LiesAway g slots pointer serial position

-- a pointer that a node of this kind may have: Nothing, in the log, or away
abbrev pub IsPointer : Layout → SlotTable → Kind → ℕ → Type 0
IsPointer g slots kind pointer =
    (pointer ≡ 4294967295) ⊎ (InLog g pointer ⊎ IsAwayPointer g slots kind pointer)

-- the pointers of an inode to the blocks that its size takes, each one that it may have
pub record ArePointers (g : Layout) (slots : SlotTable) (image : Image) (v : Inode)
    (pointers : List ℕ) : Type 0 where
  pub count : length pointers ≡ blocks_of v.size
  pub are : (i : ℕ) → i < blocks_of v.size → slice_index pointers i ≡ pointer_of image v i
  pub may : (i : ℕ) → i < blocks_of v.size → IsPointer g slots v.kind (slice_index pointers i)

-- the inode of a number where the map says, with its pointers; the root is a directory
pub record IsFoundInode (g : Layout) (image : Image) (t : TableValues) (ino : ℕ)
    (found : FoundInode) : Type 0 where
  pub there : IsInodeIn g image t ino found.inode found.address
  pub root : ino ≡ 1 → found.inode.kind ≡ Dir
  pub pointer_block : HasPointerBlock g image found.inode
  pub pointers : ArePointers g t.slots image found.inode found.pointers.items

-- what is found of a number: none exactly where the map says Nothing, which it doesn't of the root
abbrev pub IsFound : Layout → Image → TableValues → ℕ → Option FoundInode → Type 0
IsFound g image t ino None = (slice_index t.inodes ino ≡ 4294967295) × (ino ≢ 1)
IsFound g image t ino (Some found) = IsFoundInode g image t ino found

-- the inode of the root was found, which is a directory
pub record IsRootFound (found : List (Option FoundInode)) : Type 0 where
  pub root : FoundInode
  pub is : slice_index_or found 1 None ≡ Some root
  pub dir : root.inode.kind ≡ Dir

-- the inodes of an image, by their numbers from 0 on: number 0 is free, and the root a directory
pub record AreSurveyed (g : Layout) (image : Image) (t : TableValues)
    (found : List (Option FoundInode)) : Type 0 where
  pub count : length found ≡ g.inodes
  pub each : (ino : ℕ) → ino < g.inodes → IsFound g image t ino (slice_index_or found ino None)
  pub zero : slice_index_or found 0 None ≡ None
  pub root : IsRootFound found
