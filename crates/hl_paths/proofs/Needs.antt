-- By numbers a call needs what it needs of the tree.
use Rattle.std.proofs.Common.{◌≡◌, ℕ, List, [], ◌∷◌, Option, Some, None, Result, Ok, Err, refl, ap, ◌∙◌}
use Rattle.std.specs.Option.{option_map}
use Rattle.std.specs.Result.{result_ok}
use Rattle.std.specs.FinMap.{get}
use Rattle.hl_tree.specs.declared.call.Call.{Call}
use Rattle.hl_tree.specs.declared.call.Call.TheVariants as calls
use Rattle.hl_tree.specs.declared.call.Refusal.{Refusal}
use Rattle.hl_tree.specs.Refusals.{◌>>=◌}
use Rattle.hl_tree.proofs.Moved.{Names}
use Rattle.hl_placed.specs.Blocks.{PlacedFile}
use Rattle.hl_placed.specs.Placed.{PlacedTree}
use Rattle.hl_placed.specs.Calls.{of_file, need, read_needs, write_needs, cut_needs}
use Rattle.hl_paths.specs.ByNumbers.{node_by_path, of_leaf, needed}
use Rattle.hl_paths.specs.Entries.{entry_number}
use Rattle.hl_paths.specs.Finding.{named, entries_in, find_on, find_number}
use Rattle.hl_paths.specs.Links.{follow, resolve}
use Rattle.hl_paths.specs.Numbered.{NumberedNode, Directory, Leaf, Numbering, links, IsTreeOf, tree_node, found_node}
use Rattle.hl_paths.proofs.Links.{follow-none}
use Rattle.hl_paths.proofs.Nodes.{links-of, links-none}

module _ {B : Type 0} (nodes : Numbering B) where
  follow-find : (names : Names) (number : ℕ) → follow (links nodes) (Some number) names ≡ result_ok (find_on nodes number names)
  follow-find [] number = refl
  follow-find (name ∷ names) number = by_node (λ child. follow-find names child) (get nodes number) refl
    where
      by_child : ((child : ℕ) → follow (links nodes) (Some child) names ≡ result_ok (find_on nodes child names)) → (o : Option ℕ) → follow (links nodes) o names ≡ result_ok (named o >>= (λ child. find_on nodes child names))
      by_child later None = follow-none (links nodes) names
      by_child later (Some child) = later child

      by_node : ((child : ℕ) → follow (links nodes) (Some child) names ≡ result_ok (find_on nodes child names)) → (o : Option (NumberedNode B)) → get nodes number ≡ o
          → follow (links nodes) (links nodes number name) names ≡ result_ok (entries_in o >>= (λ es. named (entry_number es name) >>= (λ child. find_on nodes child names)))
      by_node later None there = ap (λ o. follow (links nodes) o names) (links-none nodes number name there) ∙ follow-none (links nodes) names
      by_node later (Some (Leaf content)) there = ap (λ o. follow (links nodes) o names) (links-of nodes number (Leaf content) name there) ∙ follow-none (links nodes) names
      by_node later (Some (Directory es)) there = ap (λ o. follow (links nodes) o names) (links-of nodes number (Directory es) name there) ∙ by_child later (entry_number es name)

  -- a path is found by numbers exactly where the links lead somewhere, and there
  pub resolve-find : (path : Names) → resolve (links nodes) path ≡ result_ok (find_number nodes path)
  unfolding resolve find_number
  resolve-find path = follow-find path 1

module _ (nodes : Numbering PlacedFile) (placed : PlacedTree) (is : IsTreeOf nodes placed) where
  same_list : {X : Type 0} (list : PlacedFile → List X) (o : Option (NumberedNode PlacedFile)) → of_file list (option_map tree_node o) ≡ of_leaf list o
  same_list list None = refl
  same_list list (Some (Directory es)) = refl
  same_list list (Some (Leaf file)) = refl

  same_found : {X : Type 0} (list : PlacedFile → List X) (o : Result ℕ Refusal) → of_file list (found_node nodes (result_ok o)) ≡ of_leaf list (node_by_path nodes o)
  same_found list (Err why) = refl
  same_found list (Ok number) = same_list list (get nodes number)

  file_needs : (list : PlacedFile → List ℕ) (path : Names) → of_file list (get placed path) ≡ of_leaf list (node_by_path nodes (find_number nodes path))
  file_needs list path = ap (of_file list) (is.same path ∙ ap (found_node nodes) (resolve-find nodes path)) ∙ same_found list (find_number nodes path)

  pub need-numbers : (call : Call) → need placed call ≡ needed nodes call
  need-numbers (calls.Read path at len) = file_needs (read_needs at len) path
  need-numbers (calls.Write path at bytes) = file_needs (write_needs at bytes) path
  need-numbers (calls.Cut path size) = file_needs (cut_needs size) path
  need-numbers call = refl
