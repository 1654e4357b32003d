-- The rules by numbers agree with the rules of trees: the call Rename.
use Rattle.std.proofs.Common.{◌≡◌, ℕ, Bool, true, false, ◌&&◌, nat_eq, List, [], ◌∷◌, ◌++◌, length, Option, Some, None, is_some, Result, Ok, Err, inl, inr, refl, ap, ◌∙◌, sym, subst, if◌then◌else◌}
use Rattle.std.specs.Option.{option_map}
use Rattle.std.specs.Ordering.{eq_by_cmp}
use Rattle.std.specs.FinMap.{get}
use Rattle.hl_tree.specs.declared.call.Limits.{Limits}
use Rattle.hl_tree.specs.declared.call.Reply.{Reply}
use Rattle.hl_tree.specs.declared.call.Reply.TheVariants as replies
use Rattle.hl_tree.specs.declared.call.Refusal.{Refusal}
use Rattle.hl_tree.specs.declared.call.Refusal.TheVariants.{Einval, Enametoolong}
use Rattle.hl_tree.specs.declared.node.Node.{Node}
use Rattle.hl_tree.specs.Names.{AreNames, path_cmp, is_too_long, below}
use Rattle.hl_tree.specs.Refusals.{◌>>=◌, refused_if}
use Rattle.hl_tree.specs.Rules as rules
use Rattle.hl_tree.specs.Tree.{Tree, walk, walk_to_parent, found, moved}
use Rattle.hl_tree.proofs.Moved.{Names}
use Rattle.hl_paths.specs.Links.{resolve}
use Rattle.hl_paths.specs.Entries.{entry_number}
use Rattle.hl_paths.specs.Numbered.{NumberedNode, Directory, Numbering, links, IsTreeOf, tree_node}
use Rattle.hl_paths.specs.Finding.{named, last_name, Parent, find_parent}
use Rattle.hl_paths.specs.Agreement.{Agree}
use Rattle.hl_paths.specs.ByNumbers as numbers
use Rattle.hl_paths.proofs.Links.{last_of}
use Rattle.hl_paths.proofs.Nodes.{some_of, found-used}
use Rattle.hl_paths.proofs.Finding.{last_name-push, find_number-push, find_number-resolve, node_at}
use Rattle.hl_paths.proofs.Agreement.{both_refused, last_is_name, parent_found, walk-parent}
use Rattle.hl_paths.proofs.Renaming.{same_kind, to_goal, onto_root}

module _ {B : Type 0} (limits : Limits) (nodes : Numbering B) (t : Tree B) (is : IsTreeOf nodes t) (from to : Names) where
  -- what a Rename leaves
  abbrev pub renamed_tree : Bool → Tree B
  renamed_tree same = if same then t else moved t from to

  abbrev by_tree : Bool → Bool → Node B → Result (Reply × Tree B) Refusal
  by_tree same dir moving = if same then Ok (replies.Ok, t) else (refused_if (dir && is_some (below from to)) Einval >>= (λ _. walk_to_parent t to >>= (λ _. rules.replaced limits t moving to (get t to) >>= (λ _. Ok (replies.Ok, moved t from to)))))

  abbrev by_number : Bool → Parent → List ℕ → ℕ → Option (NumberedNode B) → Result (Reply × Numbering B) Refusal
  by_number same parent name number moving = if same then Ok (replies.Ok, nodes) else (refused_if (numbers.is_directory_node moving && is_some (below from to)) Einval >>= (λ _.
      if nat_eq (length to) 0 then numbers.onto_root (numbers.is_directory_node moving) else (find_parent nodes to >>= (λ to_parent. numbers.may_replace (numbers.is_directory_node moving) (numbers.at_number limits nodes (entry_number to_parent.entries (last_name to))) >>= (λ _.
      Ok (replies.Ok, numbers.renamed_nodes limits nodes parent.number name number to_parent.number (last_name to) (entry_number to_parent.entries (last_name to))))))))

module _ {B : Type 0} (limits : Limits) (nodes : Numbering B) (t : Tree B) (is : IsTreeOf nodes t) (front : Names) (name : List ℕ) where
  abbrev from : Names
  from = front ++ name ∷ []

  module _ (to : Names) (to_names : AreNames to) (short : is_too_long to ≡ false) where
    on_root : (parent : Parent) → resolve (links nodes) front ≡ Some parent.number → get nodes parent.number ≡ Some (Directory parent.entries) → (number : ℕ) → entry_number parent.entries name ≡ Some number → resolve (links nodes) from ≡ Some number
        → (node : NumberedNode B) → get nodes number ≡ Some node → Agree (moved t from []) (walk_to_parent t [] >>= (λ _. rules.replaced limits t (tree_node node) [] (get t []) >>= (λ _. Ok (replies.Ok, moved t from [])))) (numbers.onto_root (numbers.is_directory_node (Some node)))
    unfolding walk_to_parent
    on_root parent at there number led from_at node node_there = onto_root limits nodes t is front name parent at there number led from_at node node_there node

    onto : (parent : Parent) → resolve (links nodes) front ≡ Some parent.number → get nodes parent.number ≡ Some (Directory parent.entries) → (number : ℕ) → entry_number parent.entries name ≡ Some number → resolve (links nodes) from ≡ Some number
        → (node : NumberedNode B) → get nodes number ≡ Some node → (same : Bool) → eq_by_cmp path_cmp from to ≡ same
        → Agree (renamed_tree limits nodes t is from to same) (by_tree limits nodes t is from to same (numbers.is_directory_node (Some node)) (tree_node node)) (by_number limits nodes t is from to same parent name number (Some node))
    onto parent at there number led from_at node node_there true e = (refl, is)
    onto parent at there number led from_at node node_there false e = both_refused (moved t from to) (numbers.is_directory_node (Some node) && is_some (below from to)) Einval _ _ (λ not_into.
        elim (last_of to) as (λ _. Agree (moved t from to) (walk_to_parent t to >>= (λ _. rules.replaced limits t (tree_node node) to (get t to) >>= (λ _. Ok (replies.Ok, moved t from to))))
        (if nat_eq (length to) 0 then numbers.onto_root (numbers.is_directory_node (Some node)) else (find_parent nodes to >>= (λ to_parent. numbers.may_replace (numbers.is_directory_node (Some node)) (numbers.at_number limits nodes (entry_number to_parent.entries (last_name to))) >>= (λ _.
        Ok (replies.Ok, numbers.renamed_nodes limits nodes parent.number name number to_parent.number (last_name to) (entry_number to_parent.entries (last_name to)))))))) [
          | inl root ↦ subst (λ p. Agree (moved t from p) (walk_to_parent t p >>= (λ _. rules.replaced limits t (tree_node node) p (get t p) >>= (λ _. Ok (replies.Ok, moved t from p))))
              (if nat_eq (length p) 0 then numbers.onto_root (numbers.is_directory_node (Some node)) else (find_parent nodes p >>= (λ to_parent. numbers.may_replace (numbers.is_directory_node (Some node)) (numbers.at_number limits nodes (entry_number to_parent.entries (last_name p))) >>= (λ _.
              Ok (replies.Ok, numbers.renamed_nodes limits nodes parent.number name number to_parent.number (last_name p) (entry_number to_parent.entries (last_name p)))))))) (sym root) (on_root parent at there number led from_at node node_there)
          | inr (to_front, to_name, f) ↦ subst (λ p. Agree (moved t from p) (walk_to_parent t p >>= (λ _. rules.replaced limits t (tree_node node) p (get t p) >>= (λ _. Ok (replies.Ok, moved t from p))))
              (if nat_eq (length p) 0 then numbers.onto_root (numbers.is_directory_node (Some node)) else (find_parent nodes p >>= (λ to_parent. numbers.may_replace (numbers.is_directory_node (Some node)) (numbers.at_number limits nodes (entry_number to_parent.entries (last_name p))) >>= (λ _.
              Ok (replies.Ok, numbers.renamed_nodes limits nodes parent.number name number to_parent.number (last_name p) (entry_number to_parent.entries (last_name p)))))))) (sym f)
              (to_goal limits nodes t is front name parent at there number led from_at node node_there to_front to_name
              (last_is_name to_front to_name (subst AreNames f to_names) (ap is_too_long (sym f) ∙ short))
              (ap (eq_by_cmp path_cmp from) (sym f) ∙ e) (ap (λ p. numbers.is_directory_node (Some node) && is_some (below from p)) (sym f) ∙ not_into))
        ])

    by_name : (parent : Parent) → find_parent nodes from ≡ Ok parent → resolve (links nodes) front ≡ Some parent.number → get nodes parent.number ≡ Some (Directory parent.entries) → (o : Option ℕ) → entry_number parent.entries name ≡ o
        → Agree (renamed_tree limits nodes t is from to (eq_by_cmp path_cmp from to)) ((named o >>= node_at nodes t is) >>= (λ moving. by_tree limits nodes t is from to (eq_by_cmp path_cmp from to) (rules.is_directory limits t moving) moving))
        (named o >>= (λ number. by_number limits nodes t is from to (eq_by_cmp path_cmp from to) parent name number (get nodes number)))
    by_name parent found_so at there None led = refl
    by_name parent found_so at there (Some number) led =
        let from_at : resolve (links nodes) from ≡ Some number = find_number-resolve nodes from number (find_number-push nodes front name ∙ ap (λ o. o >>= (λ parent. named (entry_number parent.entries name))) found_so ∙ ap named led) in
        let node = some_of (get nodes number) (found-used nodes is.linked from number from_at) in
        subst (λ o. Agree (renamed_tree limits nodes t is from to (eq_by_cmp path_cmp from to)) (found (option_map tree_node o) >>= (λ moving. by_tree limits nodes t is from to (eq_by_cmp path_cmp from to) (rules.is_directory limits t moving) moving))
        (by_number limits nodes t is from to (eq_by_cmp path_cmp from to) parent name number o)) (sym node.1)
        (subst (λ dir. Agree (renamed_tree limits nodes t is from to (eq_by_cmp path_cmp from to)) (by_tree limits nodes t is from to (eq_by_cmp path_cmp from to) dir (tree_node node.0))
        (by_number limits nodes t is from to (eq_by_cmp path_cmp from to) parent name number (Some node.0)))
        (sym (same_kind limits nodes t is front name parent at there number led from_at node.0 node.1 node.0)) (onto parent at there number led from_at node.0 node.1 (eq_by_cmp path_cmp from to) refl))

    by_parent : (o : Result Parent Refusal) → find_parent nodes from ≡ o
        → Agree (renamed_tree limits nodes t is from to (eq_by_cmp path_cmp from to)) (((o >>= (λ parent. named (entry_number parent.entries name))) >>= node_at nodes t is) >>= (λ moving. by_tree limits nodes t is from to (eq_by_cmp path_cmp from to) (rules.is_directory limits t moving) moving))
        (o >>= (λ parent. named (entry_number parent.entries name) >>= (λ number. by_number limits nodes t is from to (eq_by_cmp path_cmp from to) parent name number (get nodes number))))
    by_parent (Err why) e = refl
    by_parent (Ok parent) e = let here = parent_found nodes front name parent e in by_name parent e here.0 here.1 (entry_number parent.entries name) refl

    by_walk : Agree (renamed_tree limits nodes t is from to (eq_by_cmp path_cmp from to)) (walk t from >>= (λ moving. by_tree limits nodes t is from to (eq_by_cmp path_cmp from to) (rules.is_directory limits t moving) moving))
        (find_parent nodes from >>= (λ parent. named (entry_number parent.entries (last_name from)) >>= (λ number. by_number limits nodes t is from to (eq_by_cmp path_cmp from to) parent (last_name from) number (get nodes number))))
    by_walk = subst (λ last. Agree (renamed_tree limits nodes t is from to (eq_by_cmp path_cmp from to)) (walk t from >>= (λ moving. by_tree limits nodes t is from to (eq_by_cmp path_cmp from to) (rules.is_directory limits t moving) moving))
        (find_parent nodes from >>= (λ parent. named (entry_number parent.entries last) >>= (λ number. by_number limits nodes t is from to (eq_by_cmp path_cmp from to) parent last number (get nodes number)))))
        (sym (last_name-push front name))
        (subst (λ found. Agree (renamed_tree limits nodes t is from to (eq_by_cmp path_cmp from to)) (found >>= (λ moving. by_tree limits nodes t is from to (eq_by_cmp path_cmp from to) (rules.is_directory limits t moving) moving))
        (find_parent nodes from >>= (λ parent. named (entry_number parent.entries name) >>= (λ number. by_number limits nodes t is from to (eq_by_cmp path_cmp from to) parent name number (get nodes number)))))
        (sym (walk-parent limits nodes t is front name)) (by_parent (find_parent nodes from) refl))

  agree-rename_push : (to : Names) → AreNames to → Agree (renamed_tree limits nodes t is from to (eq_by_cmp path_cmp from to)) (rules.rename limits t from to) (numbers.rename_by_numbers limits nodes from to)
  unfolding rules.rename numbers.rename_by_numbers
  agree-rename_push to names =
      both_refused (renamed_tree limits nodes t is from to (eq_by_cmp path_cmp from to)) (is_too_long from) Enametoolong _ _ (λ short.
      both_refused (renamed_tree limits nodes t is from to (eq_by_cmp path_cmp from to)) (is_too_long to) Enametoolong _ _ (λ to_short.
      both_refused (renamed_tree limits nodes t is from to (eq_by_cmp path_cmp from to)) (nat_eq (length from) 0) Einval _ _ (λ some. by_walk to names to_short)))

module _ {B : Type 0} (limits : Limits) (nodes : Numbering B) (t : Tree B) (is : IsTreeOf nodes t) (to : Names) (names : AreNames to) where
  from_root : Agree (renamed_tree limits nodes t is [] to (eq_by_cmp path_cmp [] to)) (rules.rename limits t [] to) (numbers.rename_by_numbers limits nodes [] to)
  unfolding rules.rename numbers.rename_by_numbers
  from_root = both_refused (renamed_tree limits nodes t is [] to (eq_by_cmp path_cmp [] to)) (is_too_long to) Enametoolong _ _ (λ short. refl)

  pub agree-rename : (from : Names) → Agree (renamed_tree limits nodes t is from to (eq_by_cmp path_cmp from to)) (rules.rename limits t from to) (numbers.rename_by_numbers limits nodes from to)
  agree-rename from = elim (last_of from) as (λ _. Agree (renamed_tree limits nodes t is from to (eq_by_cmp path_cmp from to)) (rules.rename limits t from to) (numbers.rename_by_numbers limits nodes from to)) [
    | inl root ↦ subst (λ p. Agree (renamed_tree limits nodes t is p to (eq_by_cmp path_cmp p to)) (rules.rename limits t p to) (numbers.rename_by_numbers limits nodes p to)) (sym root) from_root
    | inr (front, name, e) ↦ subst (λ p. Agree (renamed_tree limits nodes t is p to (eq_by_cmp path_cmp p to)) (rules.rename limits t p to) (numbers.rename_by_numbers limits nodes p to)) (sym e) (agree-rename_push limits nodes t is front name to names)
  ]
