-- The tree of an image, as it is put together and as it is found.
use Rattle.std.specs.Prelude.{◌≡◌, ◌⊎◌, ℕ, ◌+◌, ◌<◌, ◌≤◌, List, [], Contains, Option, Some, None, IsSome, MatchOption}
use Rattle.std.specs.FinMap.{get, insert, len}
use Rattle.std.specs.List.{slice_index_or}
use Rattle.hl_media.specs.History.{Image}
use Rattle.hl_addr.specs.Layout.{Layout}
use Rattle.hl_inode.specs.declared.inode.Kind.{Kind}
use Rattle.hl_inode.specs.declared.inode.Kind.TheVariants as kinds
use Rattle.hl_tree.specs.declared.node.Node.{Node}
use Rattle.hl_tree.specs.declared.node.Node.TheVariants.{Dir, File}
use Rattle.hl_tree.specs.PlainValue.{Plain}
use Rattle.hl_tree.specs.Rules as rules
use Rattle.hl_placed.specs.Blocks.{PlacedFile, Shelf, plain_bytes}
use Rattle.hl_placed.specs.Placed.{PlacedTree, plain}
use Rattle.hl_nodes.specs.Contents.{Contents}
use Rattle.hl_nodes.specs.Order.{IsInOrder}
use Rattle.hl_nodes.specs.Files.{HasFiles, Serves, shelf_with}
use Rattle.hl_nodes.specs.Found.{node_found}
use Rattle.hl_nodes.specs.declared.found.FoundNode.{FoundNode}
use Rattle.hl_found.specs.declared.reach.Reached.{Reached}
use Rattle.hl_found.specs.Reach.{at_path}
use Rattle.hl_found.specs.Shelves.{ServesFile}

-- a directory, or a file with its bytes on a shelf
abbrev pub plain_content : Shelf → Kind → PlacedFile → Node (List ℕ)
plain_content shelf kinds.Dir content = Dir
plain_content shelf kinds.File content = File (plain_bytes shelf content)

abbrev pub plain_node : Shelf → FoundNode → Node (List ℕ)
plain_node shelf n = plain_content shelf n.kind (node_found n).content

-- the node of a number is put where it is reached, if there is one, and is reached
abbrev pub IsPut : Shelf → Option FoundNode → List Reached → ℕ → rules.Files → rules.Files → Type 0
IsPut shelf node reached number old new =
    ((path : List (List ℕ)) × (n : FoundNode) × Contains reached (at_path path number) × (node ≡ Some n) × (new ≡ insert old path (plain_node shelf n)))
    ⊎ (((path : List (List ℕ)) (n : FoundNode) → Contains reached (at_path path number) → node ≡ Some n → ⊥) × (new ≡ old))

-- the nodes of the first numbers are put where they are reached
pub record ArePut (shelf : Shelf) (nodes : List (Option FoundNode)) (reached : List Reached) (n : ℕ) (tree : rules.Files) : Type 0 where
  pub few : len tree ≤ n + 1
  pub sound : (path : List (List ℕ)) (x : Node (List ℕ)) → get tree path ≡ Some x
      → ((path ≡ []) × (x ≡ Dir)) ⊎ ((number : ℕ) × (f : FoundNode) × Contains reached (at_path path number) × (slice_index_or nodes number None ≡ Some f) × (x ≡ plain_node shelf f))
  pub whole : (number : ℕ) (path : List (List ℕ)) (f : FoundNode) → number < n → Contains reached (at_path path number) → slice_index_or nodes number None ≡ Some f
      → (q : List (List ℕ)) × Contains reached (at_path q number) × IsSome (get tree q)

-- the shelf serves the node, if it is a file
abbrev pub ServesNodeAt : Shelf → Option FoundNode → Type 0
ServesNodeAt shelf node = (n : FoundNode) → node ≡ Some n → n.kind ≡ kinds.File → ServesFile shelf (node_found n).content

-- the shelf serves each file among the nodes
abbrev pub ServesNodes : Shelf → List (Option FoundNode) → Type 0
ServesNodes shelf found = (i : ℕ) → ServesNodeAt shelf (slice_index_or found i None)

-- the contents are in order, the shelf serves their tree, and these are its files
pub record HasTreeOf (g : Layout) (image : Image) (c : Contents) (shelf : Shelf) (files : rules.Files) : Type 0 where
  pub placed : PlacedTree
  pub order : IsInOrder g image c placed
  pub serves : Serves (shelf_with g image shelf c) placed
  pub are : plain (shelf_with g image shelf c) placed ≡ files

-- the tree of contents, or they have none
abbrev pub FindsTree : Layout → Image → Contents → Shelf → Option Plain → Type 0
FindsTree g image c shelf found = MatchOption found ((files : rules.Files) → ¬ HasTreeOf g image c shelf files) (λ tree. HasTreeOf g image c shelf tree.tree)

-- the files of an image, or it has none
abbrev pub FindsFiles : ℕ → Layout → Image → Shelf → Option Plain → Type 0
FindsFiles blocks g image shelf found = MatchOption found ((files : rules.Files) → ¬ HasFiles blocks g image shelf files) (λ tree. HasFiles blocks g image shelf tree.tree)
