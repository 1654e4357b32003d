-- Nodes on the disk and the numbered nodes that they spell: equally many, charged alike, and changed alike.
use Rattle.std.proofs.Common.{◌≡◌, ℕ, ◌+◌, Bool, true, false, ◌&&◌, cond, T, List, [], ◌∷◌, length, Option, Some, None, refl, ap, ◌∙◌, sym, subst, suc}
use Rattle.std.proofs.lemmas.List.Sums.{sum_by-cons}
use Rattle.std.specs.Option.{option_map}
use Rattle.std.specs.List.{sum_by}
use Rattle.std.specs.Ordering.{nat_cmp, eq_by_cmp, is_lt}
use Rattle.std.specs.Cmp.{nat_cmp_total}
use Rattle.std.specs.FinMap.{get, insert, remove, len, len-entries, entries, entries_sorted, get-entries, get-insert, get-remove, nat_cmp-IsAntisymmetric, empty, get-empty}
use Rattle.std.specs.FinMap.Entries.{find, below_all, is_sorted, same_entries}
use Rattle.hl_placed.specs.Blocks.{PlacedFile}
use Rattle.hl_placed.specs.Charges.{blocks_charge, charge}
use Rattle.hl_placed.specs.Placed.{PlacedTree}
use Rattle.hl_paths.specs.Numbered.{NumberedNode, Directory, Leaf, Numbering, AreLinked, root_number}
use Rattle.hl_paths.specs.Charges.{numbered_charge, nodes_charge}
use Rattle.hl_paths.specs.Nodes.{FlatNode, Nodes, flat_node, Spell, HasTree, flat_charge, fresh_nodes}
use Rattle.hl_paths.proofs.Charges.{charge-nodes}
use Rattle.hl_paths.proofs.Counts.{len-tree, tree_of}
use Rattle.hl_paths.proofs.RootAlone.{IsTreeOf-root}
use Rattle.hl_tree.specs.Tree.{root_alone}
use Rattle.hl_paths.proofs.DirectoryContent.{blocks_charge-directory}

abbrev flat_rows : List (ℕ × NumberedNode PlacedFile) → List (ℕ × FlatNode)
flat_rows [] = []
flat_rows (e ∷ es) = (e.0, flat_node e.1) ∷ flat_rows es

below-flat_rows : (n : ℕ) (es : List (ℕ × NumberedNode PlacedFile)) → below_all nat_cmp n (flat_rows es) ≡ below_all nat_cmp n es
below-flat_rows n [] = refl
below-flat_rows n (e ∷ es) = ap (λ b. is_lt (nat_cmp n e.0) && b) (below-flat_rows n es)

sorted-flat_rows : (es : List (ℕ × NumberedNode PlacedFile)) → is_sorted nat_cmp (flat_rows es) ≡ is_sorted nat_cmp es
sorted-flat_rows [] = refl
sorted-flat_rows (e ∷ es) = λ i. below-flat_rows e.0 es i && sorted-flat_rows es i

on_cond : {A B : Type 0} (f : A → B) (b : Bool) (x : A) (o : Option A) → option_map f (cond b (Some x) o) ≡ cond b (Some (f x)) (option_map f o)
on_cond f true x o = refl
on_cond f false x o = refl

on_none : {A B : Type 0} (f : A → B) (b : Bool) (o : Option A) → option_map f (cond b None o) ≡ cond b None (option_map f o)
on_none f true o = refl
on_none f false o = refl

find-flat_rows : (n : ℕ) (es : List (ℕ × NumberedNode PlacedFile)) → find nat_cmp n (flat_rows es) ≡ option_map flat_node (find nat_cmp n es)
find-flat_rows n [] = refl
find-flat_rows n (e ∷ es) = ap (cond (eq_by_cmp nat_cmp n e.0) (Some (flat_node e.1))) (find-flat_rows n es) ∙ sym (on_cond flat_node (eq_by_cmp nat_cmp n e.0) e.1 (find nat_cmp n es))

length-flat_rows : (es : List (ℕ × NumberedNode PlacedFile)) → length (flat_rows es) ≡ length es
length-flat_rows [] = refl
length-flat_rows (e ∷ es) = ap suc (length-flat_rows es)

node_charged : (node : NumberedNode PlacedFile) → blocks_charge (flat_node node).content.blocks ≡ numbered_charge node
node_charged (Directory es) = blocks_charge-directory es
node_charged (Leaf file) = refl

sum-flat_rows : (es : List (ℕ × NumberedNode PlacedFile)) → sum_by (λ e. blocks_charge e.1.content.blocks) (flat_rows es) ≡ sum_by (λ e. numbered_charge e.1) es
sum-flat_rows [] = refl
sum-flat_rows (e ∷ es) =
    sum_by-cons (λ e. blocks_charge e.1.content.blocks) (e.0, flat_node e.1) (flat_rows es)
    ∙ (λ i. node_charged e.1 i + sum-flat_rows es i)
    ∙ sym (sum_by-cons (λ e. numbered_charge e.1) e es)

module _ (nodes : Nodes) (numbered : Numbering PlacedFile) (spelled : Spell nodes numbered) where
  entries-spelled : entries nodes ≡ flat_rows (entries numbered)
  entries-spelled = same_entries nat_cmp nat_cmp_total nat_cmp-IsAntisymmetric (entries nodes) (flat_rows (entries numbered)) (entries_sorted nodes)
      (subst T (sym (sorted-flat_rows (entries numbered))) (entries_sorted numbered))
      (λ n. sym (get-entries nodes n) ∙ spelled n ∙ ap (option_map flat_node) (get-entries numbered n) ∙ sym (find-flat_rows n (entries numbered)))

  pub len-spelled : len nodes ≡ len numbered
  len-spelled = len-entries nodes ∙ ap length entries-spelled ∙ length-flat_rows (entries numbered) ∙ sym (len-entries numbered)

  pub charge-spelled : flat_charge nodes ≡ nodes_charge numbered
  unfolding flat_charge nodes_charge
  charge-spelled = ap (sum_by (λ e. blocks_charge e.1.content.blocks)) entries-spelled ∙ sum-flat_rows (entries numbered)

  -- a node is put
  pub Spell-insert : (number : ℕ) (node : NumberedNode PlacedFile) → Spell (insert nodes number (flat_node node)) (insert numbered number node)
  Spell-insert number node other =
      get-insert nat_cmp_total nodes number (flat_node node) other
      ∙ ap (cond (eq_by_cmp nat_cmp other number) (Some (flat_node node))) (spelled other)
      ∙ sym (on_cond flat_node (eq_by_cmp nat_cmp other number) node (get numbered other))
      ∙ sym (ap (option_map flat_node) (get-insert nat_cmp_total numbered number node other))

  -- a number is freed
  pub Spell-remove : (number : ℕ) → Spell (remove nodes number) (remove numbered number)
  Spell-remove number other =
      get-remove nat_cmp_total nodes number other
      ∙ ap (cond (eq_by_cmp nat_cmp other number) None) (spelled other)
      ∙ sym (on_none flat_node (eq_by_cmp nat_cmp other number) (get numbered other))
      ∙ sym (ap (option_map flat_node) (get-remove nat_cmp_total numbered number other))

module _ (nodes : Nodes) (placed : PlacedTree) (has : HasTree nodes placed) where
  -- as many nodes as the tree has
  pub len-HasTree : len placed ≡ len nodes
  len-HasTree = len-tree has.numbered placed has.tree ∙ sym (len-spelled nodes has.numbered has.spelled)

  -- and the tree's charge
  pub charge-HasTree : charge placed ≡ flat_charge nodes
  charge-HasTree = charge-nodes has.numbered placed has.tree ∙ sym (charge-spelled nodes has.numbered has.spelled)

-- nodes that spell linked numbers have a tree
pub tree_of-spelled : (nodes : Nodes) (numbered : Numbering PlacedFile) → Spell nodes numbered → AreLinked numbered → (placed : PlacedTree) × HasTree nodes placed
tree_of-spelled nodes numbered spelled linked =
    let t = tree_of numbered linked in
    (t.0, record { numbered = numbered; spelled = spelled; tree = t.1 })

-- an empty directory under the root's number is the root alone
pub HasTree-fresh : HasTree fresh_nodes root_alone
HasTree-fresh = record {
  numbered = root_number;
  spelled = Spell-insert empty empty (λ number. get-empty nat_cmp number ∙ sym (ap (option_map flat_node) (get-empty nat_cmp number))) 1 (Directory []);
  tree = IsTreeOf-root PlacedFile;
}
