-- The root of nodes.
use Rattle.std.specs.Prelude.{◌≡◌, Some}
use Rattle.std.specs.FinMap.{get}
use Rattle.hl_inode.specs.declared.inode.Kind.TheVariants.{Dir}
use Rattle.hl_paths.specs.Nodes.{FlatNode, Nodes}

-- number 1 is a directory
pub record HasRoot (nodes : Nodes) : Type 0 where
  pub root : FlatNode
  pub is : get nodes 1 ≡ Some root
  pub dir : root.kind ≡ Dir
