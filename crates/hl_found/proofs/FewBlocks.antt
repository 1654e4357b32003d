-- Nodes that were found have few blocks, and numbers within the site's; their root is a directory.
use Rattle.std.specs.FinMap.{get}
use Rattle.std.proofs.Common.{◌≡◌, ℕ, ◌≤◌, List, refl, sym, ap, ◌∙◌, subst, arith}
use Rattle.std.specs.Prelude.{Option, Some, None, option_map}
use Rattle.std.specs.List.{slice_index_or}
use Rattle.std.proofs.lemmas.List.{length-map}
use Rattle.hl_media.specs.History.{Image}
use Rattle.hl_addr.specs.Layout.{Layout, IsWithinLimits}
use Rattle.hl_inode.specs.declared.inode.Kind.TheVariants as kinds
use Rattle.hl_placed.specs.Blocks.{PlacedFile}
use Rattle.hl_paths.specs.Numbered.{NumberedNode, Directory, Leaf, Numbering}
use Rattle.hl_paths.specs.Nodes.{FlatNode, Nodes, Spell, flat_node}
use Rattle.hl_paths.proofs.Links.{none_some}
use Rattle.hl_tables.specs.Values.{TableValues}
use Rattle.hl_nodes.specs.declared.found.FoundNode.{FoundNode}
use Rattle.hl_nodes.specs.Found.{block_found, node_found, nodes_found}
use Rattle.hl_nodes.specs.Nodes.{HasNodes}
use Rattle.hl_nodes.proofs.FoundNodes.{get-nodes_found}
use Rattle.hl_nodes.proofs.ImageLinks.{node_there}
use Rattle.hl_nodes.proofs.NodesMade.{most_blocks}
use Rattle.hl_found.specs.declared.contents.FoundContents.{FoundContents}
use Rattle.hl_found.specs.Charges.{HaveFewBlocks}
use Rattle.hl_found.specs.Found.{AreFound, contents_found}
use Rattle.hl_found.specs.Reach.{HasRootEntries}
use Rattle.hl_found.specs.Soundness.{HasRoot}
use Rattle.hl_found.proofs.SoundFound.{within}

few_blocks : (g : Layout) → IsWithinLimits g → (image : Image) (t : TableValues) (found : List (Option FoundNode)) → HasNodes g image t (nodes_found found) → HaveFewBlocks found
few_blocks g limits image t found has i n at =
    let is = node_there g limits image t (nodes_found found) has i (node_found n) (get-nodes_found found i ∙ ap (option_map node_found) at) in
    let most = most_blocks is.inode.size is.there.spelled.value.ranges.size in
    let count = is.is.count in
    let mapped = length-map n.blocks.items block_found in
    omega arith

-- numbers past those of the site have no node
no_entry : (found : List (Option FoundNode)) (i : ℕ) → get (nodes_found found) i ≡ None → slice_index_or found i None ≡ None
no_entry found i none = by (slice_index_or found i None) refl
  where
    by : (o : Option FoundNode) → slice_index_or found i None ≡ o → slice_index_or found i None ≡ None
    by None at = at
    by (Some n) at = absurd (none_some (sym none ∙ get-nodes_found found i ∙ ap (option_map node_found) at))

module _ (g : Layout) (image : Image) (f : FoundContents) (are : AreFound g image f) (nodes : List (Option FoundNode)) (same : nodes ≡ f.nodes.items) where
  pub few_found : HaveFewBlocks nodes
  few_found = subst HaveFewBlocks (sym same) (few_blocks g (within g image (contents_found f) are.has) image f.tables f.nodes.items are.has.nodes)

  pub past_found : (i : ℕ) → g.inodes ≤ i → slice_index_or nodes i None ≡ None
  past_found i ge = no_entry nodes i (ap (λ (l : List (Option FoundNode)). get (nodes_found l) i) same ∙ are.has.nodes.past i ge)

-- number 1 is a directory with entries
pub root_entries : (nodes : Nodes) (numbered : Numbering PlacedFile) → Spell nodes numbered → HasRoot nodes → HasRootEntries numbered
root_entries nodes numbered spelled root = by (get numbered 1) refl
  where
    same : (o : Option (NumberedNode PlacedFile)) → get numbered 1 ≡ o → option_map flat_node o ≡ Some root.root
    same o at = ap (option_map flat_node) (sym at) ∙ sym (spelled 1) ∙ root.is

    by : (o : Option (NumberedNode PlacedFile)) → get numbered 1 ≡ o → HasRootEntries numbered
    by None at = absurd (none_some (same None at))
    by (Some (Directory es)) at = (es, at)
    by (Some (Leaf content)) at =
        let both : Some (flat_node (Leaf content)) ≡ Some root.root = same (Some (Leaf content)) at in
        let one : flat_node (Leaf content) ≡ root.root = cc in
        let never : kinds.File ≡ kinds.Dir = ap (λ (n : FlatNode). n.kind) one ∙ root.dir in
        absurd (cc)
