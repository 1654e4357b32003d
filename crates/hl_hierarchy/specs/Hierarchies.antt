-- The directories of an image that was surveyed, and the numbers that their entries name.
use Rattle.std.specs.Prelude.{◌≡◌, ◌≢◌, ◌⊎◌, ℕ, ◌+◌, ◌<◌, List, length, slice_index, Option, Some}
use Rattle.hl_media.specs.History.{Image}
use Rattle.hl_addr.specs.Layout.{Layout}
use Rattle.hl_super.specs.declared.record.Record.{Record}
use Rattle.hl_summary.specs.declared.parts.Summary.{Summary}
use Rattle.hl_tables.specs.Values.{TableValues}
use Rattle.hl_inode.specs.declared.inode.Kind.TheVariants.{Dir}
use Rattle.hl_dir.specs.declared.entry.Entry.{Entry}
use Rattle.hl_nodes.specs.declared.rule.Rule.{Rule}
use Rattle.hl_nodes.specs.declared.rule.Rule.TheVariants.{DirectoryBytes, DirectoryEntry, LostInode}
use Rattle.hl_nodes.specs.Directories.{HoldsEntries}
use Rattle.hl_nodes.specs.Breaks.{Breaks}
use Rattle.hl_survey.specs.declared.found.FoundInode.{FoundInode}
use Rattle.hl_survey.specs.Surveys.{AreSurveyed, IsFoundInode}
use Rattle.hl_survey.specs.Stops.{IsBroken}
use Rattle.hl_hierarchy.specs.Naming.{at_number, numbers, EachBelow, IsNameable}

-- the rules that look at directories alone
abbrev pub IsHierarchyRule : Rule → Type 0
IsHierarchyRule rule = (rule ≡ DirectoryBytes) ⊎ ((rule ≡ DirectoryEntry) ⊎ (rule ≡ LostInode))

-- the number was found to be a directory, which holds these entries
pub record HoldsAt (g : Layout) (image : Image) (found : List (Option FoundInode)) (ino : ℕ) (es : List Entry) : Type 0 where
  pub dir : FoundInode
  pub is : at_number found ino ≡ Some dir
  pub kind : dir.inode.kind ≡ Dir
  pub holds : HoldsEntries g image dir.inode es

-- entry k of a directory names a number that it may name, the directory is noted for it, and no other of its entries does
pub record IsNoted (found : List (Option FoundInode)) (parents : List ℕ) (ino : ℕ) (es : List Entry) (k : ℕ) : Type 0 where
  pub may : IsNameable found (slice_index (numbers es) k)
  pub set : slice_index parents (slice_index (numbers es) k) ≡ ino
  pub once : (j : ℕ) → j < length es → slice_index (numbers es) j ≡ slice_index (numbers es) k → j ≡ k

-- the directory of this number names another by one of its entries
pub record NamesIn (g : Layout) (image : Image) (found : List (Option FoundInode)) (ino child : ℕ) : Type 0 where
  pub entries : List Entry
  pub held : HoldsAt g image found ino entries
  pub index : ℕ
  pub within : index < length entries
  pub is : slice_index (numbers entries) index ≡ child

-- Of the directories below a number each holds entries, and is noted for those that its entries name. No other is noted.
pub record AreNamedBelow (g : Layout) (image : Image) (found : List (Option FoundInode)) (parents : List ℕ) (n : ℕ) : Type 0 where
  pub held : (ino : ℕ) (dir : FoundInode) → ino < n → at_number found ino ≡ Some dir → dir.inode.kind ≡ Dir
      → (es : List Entry) × HoldsEntries g image dir.inode es
  pub noted : (ino : ℕ) (es : List Entry) → ino < n → HoldsAt g image found ino es
      → (k : ℕ) → k < length es → IsNoted found parents ino es k
  pub named : (c : ℕ) → slice_index parents c ≢ 0 → NamesIn g image found (slice_index parents c) c

-- this is so of all directories
abbrev pub AreNamed : Layout → Image → List (Option FoundInode) → List ℕ → Type 0
AreNamed g image found parents = AreNamedBelow g image found parents (length found)

-- it goes on to one number more
abbrev pub GoesOn : Layout → Image → List (Option FoundInode) → List ℕ → List ℕ → ℕ → Type 0
GoesOn g image found old new ino = (t : TableValues) → AreSurveyed g image t found
    → AreNamedBelow g image found old ino → AreNamedBelow g image found new (ino + 1)

-- the rule is broken at the block, whatever record and chain the image has
abbrev pub IsBrokenAnyhow : Layout → TableValues → Image → Rule → ℕ → Type 0
IsBrokenAnyhow g t image rule block = (rec : Record) → IsBroken g rec t image rule block

-- it is so where these are a survey of the image
abbrev pub BreaksSurveyed : Layout → List (Option FoundInode) → Image → Rule → ℕ → Type 0
BreaksSurveyed g found image rule block =
    (t : TableValues) → AreSurveyed g image t found → IsBrokenAnyhow g t image rule block

-- it is so where the directory is that of some number
abbrev pub BreaksDirectory : Layout → FoundInode → Image → Rule → ℕ → Type 0
BreaksDirectory g dir image rule block = (t : TableValues) (ino : ℕ)
    → IsFoundInode g image t ino dir → dir.inode.kind ≡ Dir → IsBrokenAnyhow g t image rule block

-- it is so where the directories below the number are named, and no other is noted
abbrev pub BreaksNaming : Layout → List (Option FoundInode) → List ℕ → ℕ → Image → Rule → ℕ → Type 0
BreaksNaming g found parents ino image rule block =
    EachBelow parents ino → AreNamedBelow g image found parents ino → BreaksSurveyed g found image rule block

-- none of the rules is broken at any address
abbrev pub KeepsHierarchy : Layout → Image → TableValues → Type 0
KeepsHierarchy g image t = (rec : Record) (parts : List Summary) (rule : Rule) (address : ℕ)
    → IsHierarchyRule rule → ¬ Breaks g image rec parts t rule address
