-- The laws of placed trees, which the functions of this crate have as their contracts.
use Rattle.std.specs.Prelude.{◌≡◌, ℕ, List, Some}
use Rattle.std.specs.FinMap.{entries, get, insert}
use Rattle.std.specs.List.Sorted.{IsPermutation}
use Rattle.hl_tree.specs.declared.call.Call.{Call}
use Rattle.hl_tree.specs.declared.call.Limits.{Limits}
use Rattle.hl_tree.specs.declared.node.Node.TheVariants.{File}
use Rattle.hl_tree.specs.Rules.{after, outcome}
use Rattle.hl_tree.specs.Tree.{IsTree}
use Rattle.hl_placed.specs.Blocks.{Away, AwaysAre, PlacedFile, Shelf, file_block, no_shelf}
use Rattle.hl_placed.specs.Calls.{placed_after, refusal}
use Rattle.hl_placed.specs.Charges.{charge, charge_after}
use Rattle.hl_placed.specs.Placed.{ArePlaced, EachFile, PlacedTree, plain}
use Rattle.hl_placed.specs.Ranking.{AreRanked, by_coldness, cold_files}
use Rattle.hl_placed.specs.Staging.{HoldsBlocks, IsNewSerial, Spot, put_away}

-- a call leaves, in plain, what the file rules leave
abbrev pub CallsArePlain : Type 0
CallsArePlain = (limits : Limits) (shelf : Shelf) (placed : PlacedTree) → ArePlaced shelf placed
    → (now : ℕ) (call : Call)
    → plain shelf (placed_after limits shelf placed now call) ≡ after limits (plain shelf placed) call

-- a call leaves placed files
abbrev pub FilesStayPlaced : Type 0
FilesStayPlaced = (limits : Limits) (shelf : Shelf) (placed : PlacedTree)
    → ArePlaced shelf placed → IsTree (plain shelf placed)
    → (now : ℕ) (call : Call) → ArePlaced shelf (placed_after limits shelf placed now call)

-- a block of the tree is away in the segment with this serial, at this position
abbrev pub HasAway : PlacedTree → ℕ → ℕ → Type 0
HasAway placed serial position = (path : List (List ℕ)) × (file : PlacedFile) × (i : ℕ)
    × (get placed path ≡ Some (File file)) × (file_block file i ≡ Away serial position)

-- no block is away after a call where none was away before
abbrev pub CallsPutNoneAway : Type 0
CallsPutNoneAway = (limits : Limits) (shelf : Shelf) (placed : PlacedTree)
    → ArePlaced shelf placed → IsTree (plain shelf placed) → (now : ℕ) (call : Call)
    → EachFile (AwaysAre (HasAway placed)) (placed_after limits shelf placed now call)

-- a call is refused alike, whichever bytes away blocks have
abbrev pub RefusalsNeedNoBytes : Type 0
RefusalsNeedNoBytes = (limits : Limits) (shelf : Shelf) (placed : PlacedTree) (call : Call)
    → refusal (outcome limits (plain shelf placed) call)
    ≡ refusal (outcome limits (plain no_shelf placed) call)

-- and it leaves the same charge
abbrev pub ChargesNeedNoBytes : Type 0
ChargesNeedNoBytes = (limits : Limits) (shelf : Shelf) (placed : PlacedTree) (now : ℕ) (call : Call)
    → charge (placed_after limits shelf placed now call) ≡ charge_after limits placed now call

-- a segment that holds what the blocks held that are put away in it leaves the plain tree as it is
abbrev pub StagingKeepsPlain : Type 0
StagingKeepsPlain = (shelf : Shelf) (serial : ℕ) (segment : List ℕ) (placed : PlacedTree)
    (spots : List Spot) → ArePlaced shelf placed → IsNewSerial serial placed
    → HoldsBlocks (plain shelf placed) segment 1 spots
    → plain (insert shelf serial segment) (put_away serial 1 spots placed) ≡ plain shelf placed

-- the order of migration has each file with a resident block once
abbrev pub EachIsRanked : Type 0
EachIsRanked = (now : ℕ) (placed : PlacedTree)
    → IsPermutation (cold_files now (entries placed)) (by_coldness (cold_files now (entries placed)))

-- the greater ranks come first, and of equal ones the first path
abbrev pub RanksAreInOrder : Type 0
RanksAreInOrder = (now : ℕ) (placed : PlacedTree)
    → AreRanked (by_coldness (cold_files now (entries placed)))
