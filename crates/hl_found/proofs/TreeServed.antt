-- A shelf that serves the files among nodes serves their tree, and the other way round.
use Rattle.std.proofs.Common.{◌≡◌, ℕ, List, refl, sym, ap, ◌∙◌, subst}
use Rattle.std.specs.Prelude.{Option, Some, None, option_map}
use Rattle.std.specs.FinMap.{get}
use Rattle.std.specs.List.{slice_index_or}
use Rattle.hl_inode.specs.declared.inode.Kind.TheVariants as kinds
use Rattle.hl_tree.specs.declared.node.Node.TheVariants.{Dir, File}
use Rattle.hl_placed.specs.Blocks.{PlacedFile, Shelf}
use Rattle.hl_placed.specs.Placed.{PlacedTree}
use Rattle.hl_paths.specs.Links.{resolve}
use Rattle.hl_paths.specs.Numbered.{NumberedNode, Directory, Leaf, links, found_node, tree_node}
use Rattle.hl_paths.specs.Nodes.{FlatNode, Nodes, HasTree, flat_node}
use Rattle.hl_paths.proofs.Links.{none_some}
use Rattle.hl_paths.proofs.Nodes.{is_there}
use Rattle.hl_nodes.specs.declared.found.FoundNode.{FoundNode}
use Rattle.hl_nodes.specs.Found.{node_found, nodes_found}
use Rattle.hl_nodes.specs.Files.{Serves}
use Rattle.hl_nodes.proofs.FoundNodes.{get-nodes_found}
use Rattle.hl_found.specs.Files.{ServesNodes}
use Rattle.hl_found.specs.Shelves.{ServesFile}

module _ (nodes : Nodes) (placed : PlacedTree) (has : HasTree nodes placed) where
  -- a file of the tree is that of a number
  pub file_number : (path : List (List ℕ)) (file : PlacedFile) → get placed path ≡ Some (File file) → (number : ℕ) × (get nodes number ≡ Some (record { kind = kinds.File; content = file }))
  file_number path file e = by (resolve (links has.numbered) path) refl (sym (has.tree.same path) ∙ e)
    where
      of : (number : ℕ) (o : Option (NumberedNode PlacedFile)) → get has.numbered number ≡ o → option_map tree_node o ≡ Some (File file) → (number : ℕ) × (get nodes number ≡ Some (record { kind = kinds.File; content = file }))
      of number None there f = absurd (none_some f)
      of number (Some (Directory es)) there f = absurd (let never : Dir ≡ File file = cc in cc)
      of number (Some (Leaf content)) there f =
          let same : content ≡ file = cc in
          (number, has.spelled number ∙ ap (option_map flat_node) there ∙ ap (λ (c : PlacedFile). Some (record { kind = kinds.File; content = c })) same)

      by : (o : Option ℕ) → resolve (links has.numbered) path ≡ o → found_node has.numbered (resolve (links has.numbered) path) ≡ Some (File file) → (number : ℕ) × (get nodes number ≡ Some (record { kind = kinds.File; content = file }))
      by None leads f = absurd (none_some (sym (ap (found_node has.numbered) leads) ∙ f))
      by (Some number) leads f = of number (get has.numbered number) refl (sym (ap (found_node has.numbered) leads) ∙ f)

  -- and the file of a number is one of the tree
  pub number_file : (number : ℕ) (node : FlatNode) → get nodes number ≡ Some node → node.kind ≡ kinds.File → (path : List (List ℕ)) × (get placed path ≡ Some (File node.content))
  number_file number node e kind = by (get has.numbered number) refl
    where
      by : (o : Option (NumberedNode PlacedFile)) → get has.numbered number ≡ o → (path : List (List ℕ)) × (get placed path ≡ Some (File node.content))
      by None there = absurd (none_some (sym (has.spelled number ∙ ap (option_map flat_node) there) ∙ e))
      by (Some (Directory es)) there =
          let both : Some (flat_node (Directory es)) ≡ Some node = sym (has.spelled number ∙ ap (option_map flat_node) there) ∙ e in
          let same : flat_node (Directory es) ≡ node = cc in
          let never : kinds.Dir ≡ kinds.File = ap (λ (n : FlatNode). n.kind) same ∙ kind in
          absurd (cc)
      by (Some (Leaf content)) there =
          let both : Some (flat_node (Leaf content)) ≡ Some node = sym (has.spelled number ∙ ap (option_map flat_node) there) ∙ e in
          let same : flat_node (Leaf content) ≡ node = cc in
          let reached = has.tree.linked.reached number (is_there _ there) in (
            reached.0,
            has.tree.same reached.0 ∙ ap (found_node has.numbered) reached.1 ∙ ap (option_map tree_node) there
                ∙ ap (λ (n : FlatNode). Some (File n.content)) same,
          )

module _ (shelf : Shelf) (found : List (Option FoundNode)) (placed : PlacedTree) (has : HasTree (nodes_found found) placed) where
  node_at : (number : ℕ) (node : FlatNode) → get (nodes_found found) number ≡ Some node → (n : FoundNode) × (slice_index_or found number None ≡ Some n) × (node_found n ≡ node)
  node_at number node e = by (slice_index_or found number None) refl
    where
      by : (o : Option FoundNode) → slice_index_or found number None ≡ o → (n : FoundNode) × (slice_index_or found number None ≡ Some n) × (node_found n ≡ node)
      by None at = absurd (none_some (sym (get-nodes_found found number ∙ ap (option_map node_found) at) ∙ e))
      by (Some n) at =
          let both : Some (node_found n) ≡ Some node = sym (get-nodes_found found number ∙ ap (option_map node_found) at) ∙ e in
          (n, at, (cc))

  file_served : ServesNodes shelf found → (path : List (List ℕ)) (file : PlacedFile) → get placed path ≡ Some (File file) → ServesFile shelf file
  file_served serves path file e =
      let at = file_number (nodes_found found) placed has path file e in
      let n = node_at at.0 (record { kind = kinds.File; content = file }) at.1 in
      subst (ServesFile shelf) (ap (λ (x : FlatNode). x.content) n.2) (serves at.0 n.0 n.1 (ap (λ (x : FlatNode). x.kind) n.2))

  pub tree_served : ServesNodes shelf found → Serves shelf placed
  tree_served serves = record {
    segments = λ path file e. (file_served serves path file e).segments;
    zeros = λ path file e. (file_served serves path file e).zeros;
  }

  pub nodes_served : Serves shelf placed → ServesNodes shelf found
  nodes_served serves number n at kind =
      let there = number_file (nodes_found found) placed has number (node_found n) (get-nodes_found found number ∙ ap (option_map node_found) at) kind in
      record { segments = serves.segments there.0 (node_found n).content there.1; zeros = serves.zeros there.0 (node_found n).content there.1 }
