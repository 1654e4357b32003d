-- Away blocks of nodes that were found.
use Rattle.std.specs.Prelude.{◌≡◌, ℕ, ◌+◌, ◌<◌, ◌≤◌, Some}
use Rattle.std.specs.FinMap.{get}
use Rattle.hl_placed.specs.Blocks.{Away, Block, PlacedFile, file_block}
use Rattle.hl_paths.specs.Nodes.{FlatNode, Nodes}

-- a block of the file from this one on is away at this place
abbrev pub HasAwayFrom : ℕ → ℕ → ℕ → PlacedFile → Type 0
HasAwayFrom from serial position file = (j : ℕ) × (from ≤ j) × (file_block file j ≡ Away serial position)

-- a block of the file from this one on is away where a block is
abbrev pub HasSameFrom : ℕ → Block → PlacedFile → Type 0
HasSameFrom from block file = (serial position : ℕ) × (block ≡ Away serial position) × HasAwayFrom from serial position file

-- two files have no away block in common
abbrev pub ShareNone : PlacedFile → PlacedFile → Type 0
ShareNone one other = (i : ℕ) → HasSameFrom 0 (file_block one i) other → ⊥

-- no two blocks of a file are one away block
abbrev pub HasEachOnce : PlacedFile → Type 0
HasEachOnce file = (i : ℕ) → HasSameFrom (i + 1) (file_block file i) file → ⊥

-- a file has no away block in common with the node of a number
abbrev pub SharesNoneWith : Nodes → ℕ → PlacedFile → Type 0
SharesNoneWith nodes n file = (other : FlatNode) → get nodes n ≡ Some other → ShareNone file other.content

-- nor with nodes of lesser numbers
abbrev pub SharesNoneBefore : Nodes → ℕ → PlacedFile → Type 0
SharesNoneBefore nodes number file = (n : ℕ) → n < number → SharesNoneWith nodes n file

-- the node of a number, if there is one, has each away block once, and none that one of a lesser number has
abbrev pub IsApart : Nodes → ℕ → Type 0
IsApart nodes number = (node : FlatNode) → get nodes number ≡ Some node → HasEachOnce node.content × SharesNoneBefore nodes number node.content
