-- The last use of each number.
use Rattle.std.specs.Prelude.{◌≡◌, ℕ, ◌<◌, List, length, slice_index, Option, Some, None}
use Rattle.std.specs.List.{slice_index_or}
use Rattle.std.specs.FinMap.{get}
use Rattle.hl_paths.specs.Nodes.{FlatNode, Nodes}
use Rattle.hl_survey.specs.declared.found.FoundInode.{FoundInode}

-- the last use of what was found of a number, 0 where there is nothing
abbrev pub use_of : Option FoundInode → ℕ
use_of None = 0
use_of (Some f) = f.inode.used

-- the last uses of the first numbers
pub record AreUses (found : List (Option FoundInode)) (count : ℕ) (uses : List ℕ) : Type 0 where
  pub count_is : length uses ≡ count
  pub each : (ino : ℕ) → ino < count → slice_index uses ino ≡ use_of (slice_index_or found ino None)

-- the last use of each node stands at its number
abbrev pub AreUsesOf : Nodes → List ℕ → Type 0
AreUsesOf nodes uses = (ino : ℕ) (node : FlatNode) → get nodes ino ≡ Some node → slice_index uses ino ≡ node.content.used
