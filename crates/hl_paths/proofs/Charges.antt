-- The charge of numbered nodes is the charge of their tree.
use Rattle.std.proofs.Common.{◌≡◌, ℕ, Some, refl, ap}
use Rattle.std.specs.FinMap.{get}
use Rattle.hl_tree.proofs.Moved.{Names}
use Rattle.hl_placed.specs.Blocks.{PlacedFile}
use Rattle.hl_placed.specs.Placed.{PlacedTree}
use Rattle.hl_placed.specs.Charges.{names_charge, node_charge, charge}
use Rattle.hl_paths.specs.Links.{resolve}
use Rattle.hl_paths.specs.Numbered.{NumberedNode, Directory, Leaf, Numbering, links, IsTreeOf, tree_node}
use Rattle.hl_paths.specs.Charges.{numbered_charge, nodes_charge}
use Rattle.hl_paths.proofs.Counts.{sum-tree}
use Rattle.hl_paths.proofs.Names.{names_in-entries}

module _ (nodes : Numbering PlacedFile) (placed : PlacedTree) (is : IsTreeOf nodes placed) where
  same_charge : (path : Names) (n : ℕ) (node : NumberedNode PlacedFile) → resolve (links nodes) path ≡ Some n → get nodes n ≡ Some node → node_charge placed path (tree_node node) ≡ numbered_charge node
  same_charge path n (Directory es) at there = ap names_charge (names_in-entries nodes placed is path n es at there)
  same_charge path n (Leaf file) at there = refl

  pub charge-nodes : charge placed ≡ nodes_charge nodes
  unfolding charge nodes_charge
  charge-nodes = sum-tree nodes placed is (λ e. node_charge placed e.0 e.1) (λ e. numbered_charge e.1) same_charge
