-- Nodes as they lie on the disk, and the placed tree that they make.
use Rattle.std.specs.Prelude.{◌≡◌, ℕ, List, [], length, sum_by}
use Rattle.std.specs.Option.{option_map}
use Rattle.std.specs.FinMap.{FinMap, empty, get, insert, entries}
use Rattle.std.specs.Ordering.{nat_cmp}
use Rattle.hl_inode.specs.declared.inode.Kind.{Kind}
use Rattle.hl_inode.specs.declared.inode.Kind.TheVariants as kinds
use Rattle.hl_dir.specs.declared.entry.Entry.{Entry}
use Rattle.hl_dir.specs.Dirs.{dir_bytes}
use Rattle.hl_placed.specs.Blocks.{Here, PlacedFile, listed, blocks_of, padded_block}
use Rattle.hl_placed.specs.Charges.{blocks_charge}
use Rattle.hl_placed.specs.Placed.{PlacedTree}
use Rattle.hl_paths.specs.Numbered.{NumberedNode, Directory, Leaf, Numbering, IsTreeOf}

-- a node: what it is, and its size, last use and blocks
pub record FlatNode : Type 0 where
  pub kind : Kind
  pub content : PlacedFile

-- the nodes in use, by number
abbrev pub Nodes : Type 0
Nodes = FinMap nat_cmp FlatNode

-- the content of a directory: the bytes of its entries, all resident, never used
unfoldable pub directory_content : List Entry → PlacedFile
directory_content es = record {
  size = length (dir_bytes es);
  used = 0;
  blocks = listed (blocks_of (length (dir_bytes es))) (λ i. Here (padded_block (dir_bytes es) i));
}

abbrev pub flat_node : NumberedNode PlacedFile → FlatNode
flat_node (Directory es) = record { kind = kinds.Dir; content = directory_content es }
flat_node (Leaf file) = record { kind = kinds.File; content = file }

-- under each number is a directory that spells these entries, or this file
abbrev pub Spell : Nodes → Numbering PlacedFile → Type 0
Spell nodes numbered = (number : ℕ) → get nodes number ≡ option_map flat_node (get numbered number)

-- The nodes are the placed tree: each directory's bytes are entries, and the entries make the tree.
pub record HasTree (nodes : Nodes) (placed : PlacedTree) : Type 0 where
  pub numbered : Numbering PlacedFile
  pub spelled : Spell nodes numbered
  pub tree : IsTreeOf numbered placed

-- an empty directory under the root's number
abbrev pub fresh_nodes : Nodes
fresh_nodes = insert empty 1 (flat_node (Directory []))

-- what nodes are charged, each by its blocks
unfoldable pub flat_charge : Nodes → ℕ
flat_charge nodes = sum_by (λ e. blocks_charge e.1.content.blocks) (entries nodes)
