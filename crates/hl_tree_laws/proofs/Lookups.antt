-- Look-ups tell a tree.
use Rattle.std.proofs.Common.{◌≡◌, ℕ, List, [], ◌∷◌, ◌++◌, Some, ap, ◌∙◌}
use Rattle.std.proofs.lemmas.List.{append_assoc}
use Rattle.std.specs.FinMap.{get, same_map}
use Rattle.hl_tree.specs.declared.node.Node.{Node}
use Rattle.hl_tree.specs.declared.node.Node.TheVariants.{Dir}
use Rattle.hl_tree.specs.Tree.{Tree, IsTree}
use Rattle.hl_tree.proofs.Maps.{path_total, path_exact}

-- two trees with the same look-ups are one
pub same_tree : {B : Type 0} (s t : Tree B) → ((path : List (List ℕ)) → get s path ≡ get t path) → s ≡ t
same_tree s t same = same_map path_total path_exact s t same

module _ {B : Type 0} (t : Tree B) where
  -- what is above a node is a directory
  pub above : IsTree t → (done : List (List ℕ)) (name : List ℕ) (names : List (List ℕ)) (node : Node B) → get t (done ++ name ∷ names) ≡ Some node → get t done ≡ Some Dir
  above is done name [] node there = is.parents done name node there
  above is done name (next ∷ names) node there =
      is.parents done name Dir (above is (done ++ name ∷ []) next names node (ap (get t) (append_assoc done (name ∷ []) (next ∷ names)) ∙ there))
