-- What a placed tree is charged, in blocks of the log.
use Rattle.std.specs.Prelude.{ℕ, ◌+◌, Bool, ◌&&◌, nat_lt, not, if◌then◌else◌, List, length, drop, sum_by, count_by}
use Rattle.std.specs.List.{list_any}
use Rattle.std.specs.FinMap.{entries}
use Rattle.hl_tree.specs.declared.node.Node.{Node}
use Rattle.hl_tree.specs.declared.node.Node.TheVariants.{Dir, File}
use Rattle.hl_tree.specs.declared.call.Call.{Call}
use Rattle.hl_tree.specs.declared.call.Limits.{Limits}
use Rattle.hl_tree.specs.Tree.{names_in}
use Rattle.hl_placed.specs.Blocks.{Block, PlacedFile, blocks_of, is_hole, is_here, no_shelf}
use Rattle.hl_placed.specs.Placed.{PlacedTree}
use Rattle.hl_placed.specs.Calls.{accepts, placed_after}

-- the inode, the pointer block where there is one, and the resident data blocks
abbrev pub parts_charge : Bool → ℕ → ℕ
parts_charge pointers resident = if pointers then 2 + resident else 1 + resident

-- a pointer block is there where a block of index 12 or above isn't a hole
abbrev pub blocks_charge : List Block → ℕ
blocks_charge blocks = parts_charge (list_any (λ block. not (is_hole block)) (drop 12 blocks)) (count_by is_here blocks)

-- the bytes of a directory with these names: five, and the name, for each
abbrev pub names_size : List (List ℕ) → ℕ
names_size names = sum_by (λ (name : List ℕ). 5 + length name) names

-- all blocks of a directory are resident
abbrev pub names_charge : List (List ℕ) → ℕ
names_charge names = parts_charge (nat_lt 12 (blocks_of (names_size names))) (blocks_of (names_size names))

-- what a node at a path is charged
abbrev pub node_charge : PlacedTree → List (List ℕ) → Node PlacedFile → ℕ
node_charge placed path Dir = names_charge (names_in placed path)
node_charge placed path (File file) = blocks_charge file.blocks

unfoldable pub charge : PlacedTree → ℕ
charge placed = sum_by (λ e. node_charge placed e.0 e.1) (entries placed)

-- what it is charged after a call, which is no matter of bytes, so that the empty shelf serves
unfoldable pub charge_after : Limits → PlacedTree → ℕ → Call → ℕ
charge_after limits placed now call = charge (placed_after limits no_shelf placed now call)

-- the call is accepted, but the charge exceeds the quota after it, and grows
abbrev pub is_over : ℕ → Limits → PlacedTree → ℕ → Call → Bool
is_over quota limits placed now call =
    accepts limits placed call && (nat_lt quota (charge_after limits placed now call) && nat_lt (charge placed) (charge_after limits placed now call))
