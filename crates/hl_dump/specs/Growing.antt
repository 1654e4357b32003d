-- A tree that grows by one node behind the last.
use Rattle.std.specs.Prelude.{◌≡◌, ℕ, ◌-◌, ◌<◌, ◌≤◌, List, ◌++◌, length, take, drop, All, Option, Some, None}
use Rattle.std.specs.FinMap.{get, entries, insert, len}
use Rattle.std.specs.declared.cmp.Ordering.TheVariants.{Less}
use Rattle.hl_tree.specs.declared.node.Node.TheVariants.{Dir}
use Rattle.hl_tree.specs.Names.{AreNames, path_cmp}
use Rattle.hl_tree.specs.Rules.{Files}
use Rattle.hl_tree.specs.Tree.{IsTree}
use Rattle.hl_dump.specs.Dumps.{dump_bytes, entry_bytes}
use Rattle.hl_dump.specs.Reading.{Row, IsEntry}
use Rattle.hl_dump.specs.Parsing.{Stands}

-- all names but the last
abbrev pub parent_of : List (List ℕ) → List (List ℕ)
parent_of path = take (length path - 1) path

-- A node at this path can come next: there is room, it comes behind all others, and its parent is a directory.
pub record IsNext (tree : Files) (path : List (List ℕ)) : Type 0 where
  pub room : len tree < 511
  pub last : All (λ row. path_cmp row.0 path ≡ Less) (entries tree)
  pub parent : get tree (parent_of path) ≡ Some Dir

-- what was read up to a place is the dump of this tree
pub record IsReadTo (bytes : List ℕ) (at : ℕ) (tree : Files) : Type 0 where
  pub within : at ≤ length bytes
  pub is : bytes ≡ dump_bytes tree ++ drop at bytes
  pub is_tree : IsTree tree
  pub named : All (λ e. AreNames e.0) (entries tree)
  pub few : len tree ≤ 511

-- one entry that stands there came to the tree
pub record HasCome (bytes : List ℕ) (at end : ℕ) (old new : Files) : Type 0 where
  pub entry : Row
  pub is : IsEntry entry
  pub next : IsNext old entry.0
  pub stands : Stands bytes at end (entry_bytes entry)
  pub put : new ≡ insert old entry.0 entry.1

-- the entry that stands there came to the tree, or none stands there that can come next
abbrev pub ReadsOn : List ℕ → ℕ → Files → Files → Option ℕ → Type 0
ReadsOn bytes at old new (Some end) = HasCome bytes at end old new
ReadsOn bytes at old new None = (e : Row) (rest : List ℕ) → IsEntry e → IsNext old e.0 → drop at bytes ≡ entry_bytes e ++ rest → ⊥
