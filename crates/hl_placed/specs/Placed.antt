-- The placed tree, and the plain tree that it stands for.
use Rattle.std.specs.Prelude.{◌≡◌, ℕ, List, Some}
use Rattle.std.specs.FinMap.{get}
use Rattle.hl_tree.specs.declared.node.Node.TheVariants.{File}
use Rattle.hl_tree.specs.OtherContents.{map_contents}
use Rattle.hl_tree.specs.Tree.{Tree}
use Rattle.hl_tree.specs.Rules.{Files}
use Rattle.hl_placed.specs.Blocks.{PlacedFile, IsPlacedFile, Shelf, plain_bytes}

abbrev pub PlacedTree : Type 0
PlacedTree = Tree PlacedFile

-- with the bytes of each file in its place
unfoldable pub plain : Shelf → PlacedTree → Files
plain shelf placed = map_contents (plain_bytes shelf) placed

abbrev pub EachFile : (PlacedFile → Type 0) → PlacedTree → Type 0
EachFile P placed = (path : List (List ℕ)) (file : PlacedFile) → get placed path ≡ Some (File file) → P file

-- each file of the tree is a placed file
abbrev pub ArePlaced : Shelf → PlacedTree → Type 0
ArePlaced shelf placed = EachFile (IsPlacedFile shelf) placed
