-- The laws of nodes by number, which the functions of this crate have as their contracts.
use Rattle.std.specs.Prelude.{◌≡◌, ℕ, ◌^◌, ◌<◌, ◌≤◌, IsSome, None, Some}
use Rattle.std.specs.FinMap.{get, len}
use Rattle.hl_tree.specs.declared.call.Call.{Call}
use Rattle.hl_tree.specs.declared.call.Limits.{Limits}
use Rattle.hl_tree.specs.declared.call.Reply.{Reply}
use Rattle.hl_tree.specs.Rules.{reply}
use Rattle.hl_tree.specs.Tree.{root_alone}
use Rattle.hl_placed.specs.Blocks.{PlacedFile, Shelf}
use Rattle.hl_placed.specs.Calls.{need, placed_after}
use Rattle.hl_placed.specs.Charges.{charge, is_over}
use Rattle.hl_placed.specs.Placed.{PlacedTree, plain}
use Rattle.hl_paths.specs.ByNumbers.{HasNames, by_numbers, needed, numbered_left}
use Rattle.hl_paths.specs.Files.{DoesByNumbers, is_over_quota}
use Rattle.hl_paths.specs.Free.{AreUpTo, lowest_free}
use Rattle.hl_paths.specs.Nodes.{HasTree, Nodes, Spell, flat_charge, fresh_nodes}
use Rattle.hl_paths.specs.Numbered.{AreLinked, Numbering}

-- NODES AND THEIR TREE

-- nodes that spell linked numbers have a tree
abbrev pub LinkedNodesHaveATree : Type 0
LinkedNodesHaveATree = (nodes : Nodes) (numbered : Numbering PlacedFile)
    → Spell nodes numbered → AreLinked numbered → (placed : PlacedTree) × HasTree nodes placed

-- and no other
abbrev pub NodesHaveOneTree : Type 0
NodesHaveOneTree = (nodes : Nodes) (placed other : PlacedTree)
    → HasTree nodes placed → HasTree nodes other → placed ≡ other

-- an empty directory under the root's number is the root alone
abbrev pub FreshNodesAreTheRoot : Type 0
FreshNodesAreTheRoot = HasTree fresh_nodes root_alone

-- the tree has as many nodes
abbrev pub TreesHaveAllNodes : Type 0
TreesHaveAllNodes = (nodes : Nodes) (placed : PlacedTree) → HasTree nodes placed
    → len placed ≡ len nodes

-- the tree's charge is that of the nodes, each by its blocks
abbrev pub ChargesAreFlat : Type 0
ChargesAreFlat = (nodes : Nodes) (placed : PlacedTree) → HasTree nodes placed
    → charge placed ≡ flat_charge nodes

-- FREE NUMBERS

-- The lowest free number is one that there is and isn't in use, and each before it is.
pub record IsLowestFree (nodes : Numbering PlacedFile) (most number : ℕ) : Type 0 where
  pub free : get nodes number ≡ None
  pub from_one : 1 ≤ number
  pub within : number ≤ most
  pub lowest : (other : ℕ) → 1 ≤ other → other < number → IsSome (get nodes other)

abbrev pub LowestFreeIsFree : Type 0
LowestFreeIsFree = (nodes : Numbering PlacedFile) (most number : ℕ)
    → lowest_free nodes most ≡ Some number → IsLowestFree nodes most number

-- and there is none exactly where all are in use
abbrev pub NoneIsFree : Type 0
NoneIsFree = (nodes : Numbering PlacedFile) (most : ℕ) → lowest_free nodes most ≡ None
    → (number : ℕ) → 1 ≤ number → number ≤ most → IsSome (get nodes number)

-- CALLS BY NUMBERS

-- by numbers a call needs the segments that it needs of the tree
abbrev pub NeedsByNumbers : Type 0
NeedsByNumbers = (before : Nodes) (placed : PlacedTree) (has : HasTree before placed) (call : Call)
    → need placed call ≡ needed has.numbered call

-- what answers and changes nodes by the rules by numbers answers and changes their tree by the file rules
abbrev pub CallsByNumbers : Type 0
CallsByNumbers = (limits : Limits) → limits.nodes < 2 ^ 32 → (shelf : Shelf)
    (before : Nodes) (placed : PlacedTree) (has : HasTree before placed)
    → AreUpTo limits.nodes has.numbered → (now : ℕ) (call : Call) → HasNames call
    → (said : Reply) (after : Nodes) → DoesByNumbers limits shelf before now call said after
    → (said ≡ reply limits (plain shelf placed) call)
    × HasTree after (placed_after limits shelf placed now call)

-- by numbers a call is over the quota exactly where it is by the tree
abbrev pub QuotaByNumbers : Type 0
QuotaByNumbers = (limits : Limits) → limits.nodes < 2 ^ 32 → (shelf : Shelf)
    (before : Nodes) (placed : PlacedTree) (has : HasTree before placed)
    → AreUpTo limits.nodes has.numbered → (now : ℕ) (call : Call) → HasNames call → (quota : ℕ)
    → is_over_quota quota has.numbered (by_numbers limits shelf has.numbered now call)
    ≡ is_over quota limits placed now call

-- the numbers in use stay within those that there are
abbrev pub NumbersStayWithin : Type 0
NumbersStayWithin = (limits : Limits) (shelf : Shelf)
    (before : Nodes) (placed : PlacedTree) (has : HasTree before placed)
    → AreUpTo limits.nodes has.numbered → (now : ℕ) (call : Call)
    → AreUpTo limits.nodes
    (numbered_left has.numbered (by_numbers limits shelf has.numbered now call))
