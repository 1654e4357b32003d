-- Nodes by their numbers, and the tree that they make.
use Rattle.std.specs.Prelude.{◌≡◌, ℕ, List, [], Option, Some, None, IsSome}
use Rattle.std.specs.Option.{option_map}
use Rattle.std.specs.FinMap.{FinMap, empty, get, insert, remove}
use Rattle.std.specs.Ordering.{nat_cmp}
use Rattle.hl_tree.specs.declared.node.Node.{Node}
use Rattle.hl_tree.specs.declared.node.Node.TheVariants.{Dir, File}
use Rattle.hl_tree.specs.Tree.{Tree}
use Rattle.hl_dir.specs.declared.entry.Entry.{Entry}
use Rattle.hl_dir.specs.Dirs.{AreEntries}
use Rattle.hl_paths.specs.Entries.{entry_number}
use Rattle.hl_paths.specs.Links.{Links, resolve}

-- a directory of entries, or a file
pub data NumberedNode (B : Type 0) : Type 0 where
  Directory : (entries : List Entry) → NumberedNode B
  Leaf : (content : B) → NumberedNode B

-- a finite map from numbers to nodes
abbrev pub Numbering : Type 0 → Type 0
Numbering B = FinMap nat_cmp (NumberedNode B)

-- an empty directory under the root's number
abbrev pub root_number : {B : Type 0} → Numbering B
root_number = insert empty 1 (Directory [])

module _ {B : Type 0} where
  abbrev pub number_in : Option (NumberedNode B) → List ℕ → Option ℕ
  number_in None name = None
  number_in (Some (Leaf content)) name = None
  number_in (Some (Directory es)) name = entry_number es name

  -- the number that a name has in the directory with a number
  unfoldable pub links : Numbering B → Links
  links nodes number name = number_in (get nodes number) name

  -- the nodes without a number, if it is one
  abbrev pub without_number : Option ℕ → Numbering B → Numbering B
  without_number None nodes = nodes
  without_number (Some number) nodes = remove nodes number

  abbrev pub tree_node : NumberedNode B → Node B
  tree_node (Directory es) = Dir
  tree_node (Leaf content) = File content

  -- what a tree has where a number is found
  abbrev pub found_node : Numbering B → Option ℕ → Option (Node B)
  found_node nodes None = None
  found_node nodes (Some number) = option_map tree_node (get nodes number)

  -- Number 1 is a directory, the root. Each entry names a number in use, and not the root. No number is named twice, and
  -- each number in use is reached.
  pub record AreLinked (nodes : Numbering B) : Type 0 where
    pub root : (es : List Entry) × (get nodes 1 ≡ Some (Directory es))
    pub entries : (number : ℕ) (es : List Entry) → get nodes number ≡ Some (Directory es) → AreEntries es
    pub used : (number : ℕ) (name : List ℕ) (child : ℕ) → links nodes number name ≡ Some child → IsSome (get nodes child)
    pub below_root : (number : ℕ) (name : List ℕ) (child : ℕ) → links nodes number name ≡ Some child → child ≡ 1 → ⊥
    pub once : (one other : ℕ) (name named : List ℕ) (child : ℕ) → links nodes one name ≡ Some child → links nodes other named ≡ Some child → (one ≡ other) × (name ≡ named)
    pub reached : (number : ℕ) → IsSome (get nodes number) → (path : List (List ℕ)) × (resolve (links nodes) path ≡ Some number)

  -- The numbered nodes are one tree: at each path it has what the path's number has.
  pub record IsTreeOf (nodes : Numbering B) (t : Tree B) : Type 0 where
    pub linked : AreLinked nodes
    pub same : (path : List (List ℕ)) → get t path ≡ found_node nodes (resolve (links nodes) path)
