-- What a tree that a store knows says of one number.
use Rattle.std.proofs.Common.{◌≡◌, ℕ, List, length, Option, Some, None, refl, sym, ◌∙◌, ap}
use Rattle.std.specs.Prelude.{option_map, slice_index}
use Rattle.std.specs.FinMap.{get}
use Rattle.hl_media.specs.History.{MachineState}
use Rattle.hl_inode.specs.declared.inode.Kind.{Kind}
use Rattle.hl_inode.specs.declared.inode.Kind.TheVariants.{Dir, File}
use Rattle.hl_dir.specs.declared.entry.Entry.{Entry}
use Rattle.hl_dir.specs.Dirs.{Spells, dir_bytes}
use Rattle.hl_placed.specs.Blocks.{PlacedFile}
use Rattle.hl_paths.specs.Nodes.{FlatNode, directory_content, flat_node}
use Rattle.hl_paths.specs.Numbered.{Directory, Leaf, NumberedNode, Numbering}
use Rattle.hl_nodes.specs.Contents.{Contents}
use Rattle.hl_overlay.specs.Making.{used_of}
use Rattle.hl_overlaid.proofs.NowLemmas.{none_some, one}
use Rattle.hl_overlaid.proofs.PutLemmas.{mapped, mapped_none}
use Rattle.hl_store.specs.declared.answers.Node.{Node}
use Rattle.hl_store.specs.Values.{StoreValue, nodes_of}
use Rattle.hl_store.specs.Lying.{LiesOver}
use Rattle.hl_store.specs.Finding.{HasNodeFound}
use Rattle.hl_ranges.specs.Directories.{HasDirectory, HasKind, directory_node}
use Rattle.hl_walk.specs.Trees.{KnowsTree, known_node}
use Rattle.hl_walk.proofs.NeverUsed.{never_used}

-- a file is no directory
pub file_dir : File ≡ Dir → ⊥
file_dir e = cc

module _ {M : Type 0} (v : StoreValue M) (c : Contents) (numbered : Numbering PlacedFile) (tree : KnowsTree v c numbered) (ino : ℕ) where
  -- under a number of the tree the store has a node, which is the tree's with the last use that the store knows
  pub node_of : (node : NumberedNode PlacedFile) → get numbered ino ≡ Some node
      → (n : FlatNode) × (get (nodes_of v c) ino ≡ Some n) × (known_node v ino n ≡ flat_node node)
  node_of node at = mapped (known_node v ino) (get (nodes_of v c) ino) (flat_node node) (tree.known ino ∙ ap (option_map flat_node) at)

  -- under another it has none
  pub none_of : get numbered ino ≡ None → get (nodes_of v c) ino ≡ None
  none_of none = mapped_none (known_node v ino) (get (nodes_of v c) ino) (tree.known ino ∙ ap (option_map flat_node) none)

  -- so is it the other way about
  pub numbered_of : (n : FlatNode) → get (nodes_of v c) ino ≡ Some n
      → (node : NumberedNode PlacedFile) × (get numbered ino ≡ Some node) × (flat_node node ≡ known_node v ino n)
  numbered_of n has = mapped flat_node (get numbered ino) (known_node v ino n) (sym (tree.known ino) ∙ ap (option_map (known_node v ino)) has)

  -- A NUMBER THAT ISN'T IN USE is none of the tree's
  pub unused_none : get (nodes_of v c) ino ≡ None → get numbered ino ≡ None
  unused_none none = mapped_none flat_node (get numbered ino) (sym (tree.known ino) ∙ ap (option_map (known_node v ino)) none)

  -- A FILE is one of the tree
  pub leaf_of_node : (n : FlatNode) → get (nodes_of v c) ino ≡ Some n → n.kind ≡ File
      → (file : PlacedFile) × (get numbered ino ≡ Some (Leaf file)) × (flat_node (Leaf file) ≡ known_node v ino n)
  leaf_of_node n has kind = (let m = numbered_of n has in by m.0 m.1 m.2)
    where
      by : (node : NumberedNode PlacedFile) → get numbered ino ≡ Some node → flat_node node ≡ known_node v ino n
          → (file : PlacedFile) × (get numbered ino ≡ Some (Leaf file)) × (flat_node (Leaf file) ≡ known_node v ino n)
      by (Directory es) at same = absurd (file_dir (sym kind ∙ sym (ap (λ (x : FlatNode). x.kind) same)))
      by (Leaf file) at same = (file, at, same)

  -- so is a directory
  pub directory_of_node : (n : FlatNode) → get (nodes_of v c) ino ≡ Some n → n.kind ≡ Dir
      → (es : List Entry) × (get numbered ino ≡ Some (Directory es)) × (flat_node (Directory es) ≡ known_node v ino n)
  directory_of_node n has kind = (let m = numbered_of n has in by m.0 m.1 m.2)
    where
      by : (node : NumberedNode PlacedFile) → get numbered ino ≡ Some node → flat_node node ≡ known_node v ino n
          → (es : List Entry) × (get numbered ino ≡ Some (Directory es)) × (flat_node (Directory es) ≡ known_node v ino n)
      by (Directory es) at same = (es, at, same)
      by (Leaf file) at same = absurd (file_dir (ap (λ (x : FlatNode). x.kind) same ∙ kind))

  -- by the kind that is found of it
  pub leaf_of_kind : HasKind v c ino File → (file : PlacedFile) × (get numbered ino ≡ Some (Leaf file))
  leaf_of_kind has = (let m = leaf_of_node has.n has.has has.is in (m.0, m.1))

  pub directory_of_kind : HasKind v c ino Dir → (es : List Entry) × (get numbered ino ≡ Some (Directory es))
  directory_of_kind has = (let m = directory_of_node has.n has.has has.is in (m.0, m.1))

  -- A NODE THAT WAS FOUND: of a file it has the size and the last use
  pub file_found : (s : MachineState) (node : Node) → HasNodeFound v ino node s c → node.kind ≡ File
      → (file : PlacedFile) × (get numbered ino ≡ Some (Leaf file)) × (node.size ≡ file.size) × (node.used ≡ file.used)
  file_found s node found kind =
      let m = leaf_of_node found.n found.has (sym found.is.kind ∙ kind) in
      (m.0, m.1, found.is.size ∙ sym (ap (λ (x : FlatNode). x.content.size) m.2), found.is.used ∙ sym (ap (λ (x : FlatNode). x.content.used) m.2))

  -- and of a directory the size
  pub directory_found : (s : MachineState) (node : Node) → HasNodeFound v ino node s c → node.kind ≡ Dir
      → (es : List Entry) × (get numbered ino ≡ Some (Directory es)) × (node.size ≡ length (dir_bytes es))
  unfolding directory_content
  directory_found s node found kind =
      let m = directory_of_node found.n found.has (sym found.is.kind ∙ kind) in
      (m.0, m.1, found.is.size ∙ sym (ap (λ (x : FlatNode). x.content.size) m.2))

  module _ (s : MachineState) (lies : LiesOver v c s) where
    -- a directory of the tree is the node of its bytes
    pub node_of_directory : (es : List Entry) → get numbered ino ≡ Some (Directory es) → get (nodes_of v c) ino ≡ Some (directory_node (dir_bytes es))
    unfolding directory_content directory_node
    node_of_directory es at =
        let m = node_of (Directory es) at in
        let n = m.0 in
        let kind : n.kind ≡ Dir = ap (λ (x : FlatNode). x.kind) m.2 in
        let unused : n.content.used ≡ used_of n.kind (slice_index v.uses ino) = never_used v c s lies ino n m.1 kind ∙ sym (ap (λ (k : Kind). used_of k (slice_index v.uses ino)) kind) in
        m.1 ∙ ap Some (ap (λ (u : ℕ). record { kind = n.kind; content = record { size = n.content.size; used = u; blocks = n.content.blocks } }) unused ∙ m.2)

    -- A DIRECTORY'S BYTES spell its entries in the tree
    pub bytes_spell : (bytes : List ℕ) → HasDirectory v c ino bytes → (es : List Entry) → get numbered ino ≡ Some (Directory es) → Spells bytes es
    bytes_spell bytes has es at = record { value = tree.linked.entries ino es at; spelled = has.own (dir_bytes es) (node_of_directory es at) }

    -- which it has
    pub entries_of_bytes : (bytes : List ℕ) → HasDirectory v c ino bytes → (es : List Entry) × Spells bytes es × (get numbered ino ≡ Some (Directory es))
    entries_of_bytes bytes has =
        let m = directory_of_kind has.kind in
        (m.0, bytes_spell bytes has m.0 m.1, m.1)
