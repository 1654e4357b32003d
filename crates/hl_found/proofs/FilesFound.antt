-- The files of an image are the tree of its contents.
use Rattle.std.specs.FinMap.{get, same_map, nat_cmp-IsAntisymmetric}
use Rattle.std.proofs.Common.{◌≡◌, ℕ, ◌≤◌, List, refl, sym, ap, ◌∙◌, subst}
use Rattle.std.specs.Prelude.{Option, Some, None, option_map}
use Rattle.std.specs.Cmp.{nat_cmp_total}
use Rattle.hl_bytes.specs.Buffers.{block_of}
use Rattle.hl_media.specs.History.{Image}
use Rattle.hl_addr.specs.Layout.{Layout, quota}
use Rattle.hl_super.specs.Labels.{Spells}
use Rattle.hl_image.specs.Newest.{label_of}
use Rattle.hl_dir.specs.declared.entry.Entry.{Entry}
use Rattle.hl_dir.proofs.DirLemmas.{spelled_once}
use Rattle.hl_tree.specs.PlainValue.{Plain}
use Rattle.hl_tree.specs.Rules as rules
use Rattle.hl_placed.specs.Blocks.{PlacedFile, Shelf, no_shelf, plain_bytes}
use Rattle.hl_placed.specs.Placed.{PlacedTree, plain}
use Rattle.hl_paths.specs.Numbered.{NumberedNode, Directory, Leaf, Numbering, AreLinked, IsTreeOf}
use Rattle.hl_paths.specs.Nodes.{FlatNode, Nodes, HasTree, Spell, directory_content, flat_node, flat_charge}
use Rattle.hl_paths.proofs.Counts.{tree_of}
use Rattle.hl_paths.proofs.DirectoryContent.{plain_bytes-directory}
use Rattle.hl_paths.proofs.Files.{one_tree}
use Rattle.hl_nodes.specs.Contents.{Contents, HasContents, next_tertiary}
use Rattle.hl_nodes.specs.Files.{HasFiles, Serves, shelf_with}
use Rattle.hl_nodes.specs.Found.{nodes_found}
use Rattle.hl_nodes.specs.Order.{HoldsLines, IsInOrder}
use Rattle.hl_nodes.specs.Sound.{IsSound}
use Rattle.hl_nodes.specs.Verdicts.{KeepsRules}
use Rattle.hl_nodes.proofs.Determined.{one_contents}
use Rattle.hl_nodes.proofs.Frame.{limits_of}
use Rattle.hl_nodes.proofs.OrderKeeps.{order_none}
use Rattle.hl_nodes.proofs.OrderMade.{order_made}
use Rattle.hl_found.specs.Directories.{HaveEntries}
use Rattle.hl_found.specs.Files.{FindsFiles, FindsTree, HasTreeOf, ServesNodes}
use Rattle.hl_nodes.specs.declared.found.FoundNode.{FoundNode}
use Rattle.hl_found.proofs.TreeServed.{tree_served, nodes_served}
use Rattle.hl_found.proofs.LastBlocks.{ends_files}

-- nodes spell one numbering of entries
module _ (nodes : Nodes) (one other : Numbering PlacedFile) (spelled : Spell nodes one) (spelled_other : Spell nodes other) (entries : HaveEntries one) (entries_other : HaveEntries other) where
  same_content : (es fs : List Entry) → directory_content es ≡ directory_content fs → (number : ℕ) → get one number ≡ Some (Directory es) → get other number ≡ Some (Directory fs) → es ≡ fs
  same_content es fs same number there there_other = spelled_once fs es (entries_other number fs there_other).0 (entries number es there).0
      (sym (plain_bytes-directory no_shelf fs) ∙ ap (plain_bytes no_shelf) (sym same) ∙ plain_bytes-directory no_shelf es)

  same_node : (number : ℕ) (o p : Option (NumberedNode PlacedFile)) → get one number ≡ o → get other number ≡ p → option_map flat_node o ≡ option_map flat_node p → o ≡ p
  same_node number None None e f same = refl
  same_node number None (Some x) e f same = cc
  same_node number (Some x) None e f same = cc
  same_node number (Some (Leaf a)) (Some (Leaf b)) e f same = let flat : flat_node (Leaf a) ≡ flat_node (Leaf b) = cc in ap (λ (n : FlatNode). Some (Leaf n.content)) flat
  same_node number (Some (Leaf a)) (Some (Directory es)) e f same = let flat : flat_node (Leaf a) ≡ flat_node (Directory es) = cc in let kind = ap (λ (n : FlatNode). n.kind) flat in cc
  same_node number (Some (Directory es)) (Some (Leaf a)) e f same = let flat : flat_node (Directory es) ≡ flat_node (Leaf a) = cc in let kind = ap (λ (n : FlatNode). n.kind) flat in cc
  same_node number (Some (Directory es)) (Some (Directory fs)) e f same =
      let flat : flat_node (Directory es) ≡ flat_node (Directory fs) = cc in
      ap (λ x. Some (Directory x)) (same_content es fs (ap (λ (n : FlatNode). n.content) flat) number e f)

  pub one_numbering : one ≡ other
  one_numbering = same_map nat_cmp_total nat_cmp-IsAntisymmetric one other (λ number. same_node number (get one number) (get other number) refl refl (sym (spelled number) ∙ spelled_other number))

-- nodes that have a tree spell linked numbers
pub tree_linked : (nodes : Nodes) (numbered : Numbering PlacedFile) → Spell nodes numbered → HaveEntries numbered → (placed : PlacedTree) → HasTree nodes placed → AreLinked numbered
tree_linked nodes numbered spelled entries placed has =
    subst AreLinked (one_numbering nodes has.numbered numbered has.spelled spelled has.tree.linked.entries entries) has.tree.linked

-- the tree of contents gives files
pub files_made : (blocks : ℕ) (g : Layout) (image : Image) (c : Contents) (shelf : Shelf) (files : rules.Files) → Spells blocks (image 0) (label_of g) → HasTreeOf g image c shelf files → HasFiles blocks g image shelf files
files_made blocks g image c shelf files label has = record {
  label = label;
  contents = c;
  has = has.order.has;
  keeps_rules = order_none g image c has.placed has.order;
  placed = has.placed;
  tree = has.order.tree;
  serves = has.serves;
  are = has.are;
}

-- and files are the tree of the contents
module _ (blocks : ℕ) (g : Layout) (image : Image) (shelf : Shelf) (files : rules.Files) (x : HasFiles blocks g image shelf files) where
  keeps : KeepsRules g image
  keeps = record { rec = x.contents.rec; parts = x.contents.parts; newest = x.has.newest; volumes = x.has.volumes; chain = x.has.chain; none = x.keeps_rules }

  made : (c : Contents) × (placed : PlacedTree) × IsInOrder g image c placed
  made = order_made g image keeps

  module _ (c : Contents) (has : HasContents g image c) where
    own_is : x.contents ≡ c
    own_is = one_contents g image x.contents c x.has has

    made_is : made.0 ≡ c
    made_is = one_contents g image made.0 c made.2.has has

    order : IsInOrder g image c made.1
    order = subst (λ (d : Contents). IsInOrder g image d made.1) made_is made.2

    placed_is : x.placed ≡ made.1
    placed_is = one_tree c.nodes x.placed made.1 (subst (λ (d : Contents). HasTree d.nodes x.placed) own_is x.tree) order.tree

    pub files_tree : HasTreeOf g image c shelf files
    files_tree = record {
      placed = made.1;
      order = order;
      serves = subst (Serves (shelf_with g image shelf c)) placed_is (subst (λ (d : Contents). Serves (shelf_with g image shelf d) x.placed) own_is x.serves);
      are = ap (plain (shelf_with g image shelf c)) (sym placed_is) ∙ ap (λ (d : Contents). plain (shelf_with g image shelf d) x.placed) (sym own_is) ∙ x.are;
    }

-- what was found as the tree of the contents is the image's files
pub files_found : (blocks : ℕ) (g : Layout) (image : Image) (c : Contents) (shelf : Shelf) → Spells blocks (image 0) (label_of g) → HasContents g image c → (found : Option Plain) → FindsTree g image c shelf found → FindsFiles blocks g image shelf found
files_found blocks g image c shelf label has None none = λ files x. none files (files_tree blocks g image shelf files x c has)
files_found blocks g image c shelf label has (Some tree) tree_is = files_made blocks g image c shelf tree.tree label tree_is

-- contents whose parts were found in order have a tree
module _ (g : Layout) (bytes : List ℕ) (c : Contents) (found : List (Option FoundNode)) (nodes : c.nodes ≡ nodes_found found) (shelf own : Shelf) (own_is : own ≡ shelf_with g (block_of bytes) shelf c)
    (has : HasContents g (block_of bytes) c) (sound : IsSound g (block_of bytes) c) (lines : HoldsLines g (block_of bytes) c.tables.slots) (charge : flat_charge c.nodes ≤ quota g)
    (numbered : Numbering PlacedFile) (spelled : Spell c.nodes numbered) (linked : AreLinked numbered) (served : ServesNodes own found) where
  tree : (placed : PlacedTree) × IsTreeOf numbered placed
  tree = tree_of numbered linked

  has_tree : HasTree c.nodes tree.0
  has_tree = record { numbered = numbered; spelled = spelled; tree = tree.1 }

  serves : Serves (shelf_with g (block_of bytes) shelf c) tree.0
  serves = subst (λ (s : Shelf). Serves s tree.0) own_is (tree_served own found tree.0 (subst (λ (n : Nodes). HasTree n tree.0) nodes has_tree) served)

  pub tree_found : (files : rules.Files) → ((placed : PlacedTree) → IsTreeOf numbered placed → plain own placed ≡ files) → HasTreeOf g (block_of bytes) c shelf files
  tree_found files are = record {
    placed = tree.0;
    order = record {
      has = has;
      sound = sound;
      tree = has_tree;
      lines = lines;
      ends = ends_files g (limits_of g (block_of bytes) c.rec has.newest has.volumes) bytes shelf c.tables (next_tertiary c) sound.slots c.nodes has.nodes tree.0 has_tree serves;
      charge = charge;
    };
    serves = serves;
    are = ap (λ (s : Shelf). plain s tree.0) (sym own_is) ∙ are tree.0 tree.1;
  }

-- and where they have a tree, the shelf serves each file
pub served_found : (g : Layout) (image : Image) (c : Contents) (found : List (Option FoundNode)) (shelf own : Shelf) (files : rules.Files) → c.nodes ≡ nodes_found found → own ≡ shelf_with g image shelf c → HasTreeOf g image c shelf files → ServesNodes own found
served_found g image c found shelf own files nodes own_is has = nodes_served own found has.placed (subst (λ (n : Nodes). HasTree n has.placed) nodes has.order.tree) (subst (λ (s : Shelf). Serves s has.placed) (sym own_is) has.serves)
