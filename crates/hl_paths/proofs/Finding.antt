-- A path leads by numbers where the tree's walk leads, or is refused for the same reason.
use Rattle.std.proofs.Common.{arith, ◌≡◌, ℕ, ◌-◌, List, [], ◌∷◌, ◌++◌, take, length, get_or, Option, Some, None, Result, Ok, Err, refl, ap, ◌∙◌, sym}
use Rattle.std.proofs.lemmas.List.{append_assoc, append-nil, take-append-le, take_all, get_or-append_right, length_push}
use Rattle.std.specs.Option.{option_map}
use Rattle.std.specs.FinMap.{get}
use Rattle.hl_tree.specs.declared.call.Refusal.{Refusal}
use Rattle.hl_tree.specs.declared.call.Refusal.TheVariants.{Enoent}
use Rattle.hl_tree.specs.declared.node.Node.{Node}
use Rattle.hl_tree.specs.Refusals.{◌>>=◌}
use Rattle.hl_tree.specs.Tree.{Tree, way_on, walk, walk_to_parent, found, in_directory}
use Rattle.hl_tree.proofs.Moved.{Names}
use Rattle.hl_dir.specs.declared.entry.Entry.{Entry}
use Rattle.hl_paths.specs.Links.{step, resolve}
use Rattle.hl_paths.specs.Entries.{entry_number}
use Rattle.hl_paths.specs.Numbered.{NumberedNode, Directory, Leaf, Numbering, links, IsTreeOf, tree_node, found_node}
use Rattle.hl_paths.specs.Finding.{named, front_of, last_name, Parent, parent_with, entries_in, find_on, find_number, find_parent}
use Rattle.hl_paths.proofs.Links.{resolve-root, resolve-last}
use Rattle.hl_paths.proofs.Nodes.{links-of}

pub front_of-push : (front : Names) (name : List ℕ) → front_of (front ++ name ∷ []) ≡ front
front_of-push front name =
    let size : length (front ++ name ∷ []) - 1 ≡ length front = (let long = length_push front name in omega arith) in
    ap (λ n. take n (front ++ name ∷ [])) size ∙ take-append-le (length front) front (name ∷ []) (omega arith) ∙ take_all (length front) front (omega arith)

pub last_name-push : (front : Names) (name : List ℕ) → last_name (front ++ name ∷ []) ≡ name
last_name-push front name =
    let size : length (front ++ name ∷ []) - 1 ≡ length front = (let long = length_push front name in omega arith) in
    let none : length front - length front ≡ 0 = omega arith in
    ap (λ n. get_or (front ++ name ∷ []) n []) size ∙ get_or-append_right front (name ∷ []) (length front) (length front) [] refl (omega arith) ∙ ap (λ n. get_or (name ∷ []) n []) none

module _ {B : Type 0} (nodes : Numbering B) where
  find_on-append : (number : ℕ) (xs ys : Names) → find_on nodes number (xs ++ ys) ≡ (find_on nodes number xs >>= (λ n. find_on nodes n ys))
  find_on-append number [] ys = refl
  find_on-append number (x ∷ xs) ys = by_entries (λ child. find_on-append child xs ys) (entries_in (get nodes number))
    where
      by_name : ((child : ℕ) → find_on nodes child (xs ++ ys) ≡ (find_on nodes child xs >>= (λ n. find_on nodes n ys))) → (o : Result ℕ Refusal) → (o >>= (λ child. find_on nodes child (xs ++ ys))) ≡ ((o >>= (λ child. find_on nodes child xs)) >>= (λ n. find_on nodes n ys))
      by_name later (Ok child) = later child
      by_name later (Err why) = refl

      by_entries : ((child : ℕ) → find_on nodes child (xs ++ ys) ≡ (find_on nodes child xs >>= (λ n. find_on nodes n ys))) → (o : Result (List Entry) Refusal) → (o >>= (λ es. named (entry_number es x) >>= (λ child. find_on nodes child (xs ++ ys)))) ≡ ((o >>= (λ es. named (entry_number es x) >>= (λ child. find_on nodes child xs))) >>= (λ n. find_on nodes n ys))
      by_entries later (Ok es) = by_name later (named (entry_number es x))
      by_entries later (Err why) = refl

  pub find_parent-push : (front : Names) (name : List ℕ) → find_parent nodes (front ++ name ∷ []) ≡ (find_number nodes front >>= (λ number. entries_in (get nodes number) >>= (λ es. Ok (parent_with number es))))
  unfolding find_parent
  find_parent-push front name = ap (λ p. find_number nodes p >>= (λ number. entries_in (get nodes number) >>= (λ es. Ok (parent_with number es)))) (front_of-push front name)

  -- the number of a path is that of its last name in its parent
  pub find_number-push : (front : Names) (name : List ℕ) → find_number nodes (front ++ name ∷ []) ≡ (find_parent nodes (front ++ name ∷ []) >>= (λ parent. named (entry_number parent.entries name)))
  unfolding find_number
  find_number-push front name =
      find_on-append 1 front (name ∷ [])
      ∙ by_front (find_on nodes 1 front)
      ∙ sym (ap (λ o. o >>= (λ parent. named (entry_number parent.entries name))) (find_parent-push front name))
    where
      by_name : (o : Result ℕ Refusal) → (o >>= (λ (child : ℕ). Ok child)) ≡ o
      by_name (Ok child) = refl
      by_name (Err why) = refl

      by_entries : (number : ℕ) (o : Result (List Entry) Refusal) → (o >>= (λ es. named (entry_number es name) >>= (λ child. Ok child))) ≡ ((o >>= (λ es. Ok (parent_with number es))) >>= (λ (parent : Parent). named (entry_number parent.entries name)))
      by_entries number (Ok es) = by_name (named (entry_number es name))
      by_entries number (Err why) = refl

      by_front : (o : Result ℕ Refusal) → (o >>= (λ n. find_on nodes n (name ∷ []))) ≡ ((o >>= (λ number. entries_in (get nodes number) >>= (λ es. Ok (parent_with number es)))) >>= (λ (parent : Parent). named (entry_number parent.entries name)))
      by_front (Ok number) = by_entries number (entries_in (get nodes number))
      by_front (Err why) = refl

  -- what is found by numbers is what the links lead to
  on_from : (names done : Names) (number : ℕ) → resolve (links nodes) done ≡ Some number → (to : ℕ) → find_on nodes number names ≡ Ok to → resolve (links nodes) (done ++ names) ≡ Some to
  on_from [] done number at to e = ap (resolve (links nodes)) (append-nil done) ∙ at ∙ (let same : number ≡ to = cc in ap Some same)
  on_from (name ∷ names) done number at to e = by_node (λ child led. on_from names (done ++ name ∷ []) child led to) (get nodes number) refl e
    where
      by_child : ((child : ℕ) → resolve (links nodes) (done ++ name ∷ []) ≡ Some child → find_on nodes child names ≡ Ok to → resolve (links nodes) ((done ++ name ∷ []) ++ names) ≡ Some to) → (es : List Entry) → get nodes number ≡ Some (Directory es) → (o : Option ℕ) → entry_number es name ≡ o → (named o >>= (λ child. find_on nodes child names)) ≡ Ok to → resolve (links nodes) (done ++ name ∷ names) ≡ Some to
      by_child later es there None led f = cc
      by_child later es there (Some child) led f = ap (resolve (links nodes)) (sym (append_assoc done (name ∷ []) names))
          ∙ later child (resolve-last (links nodes) done name ∙ ap (λ o. step (links nodes) o name) at ∙ links-of nodes number (Directory es) name there ∙ led) f

      by_node : ((child : ℕ) → resolve (links nodes) (done ++ name ∷ []) ≡ Some child → find_on nodes child names ≡ Ok to → resolve (links nodes) ((done ++ name ∷ []) ++ names) ≡ Some to) → (o : Option (NumberedNode B)) → get nodes number ≡ o → (entries_in o >>= (λ es. named (entry_number es name) >>= (λ child. find_on nodes child names))) ≡ Ok to → resolve (links nodes) (done ++ name ∷ names) ≡ Some to
      by_node later None there f = cc
      by_node later (Some (Leaf content)) there f = cc
      by_node later (Some (Directory es)) there f = by_child later es there (entry_number es name) refl f

  pub find_number-resolve : (path : Names) (number : ℕ) → find_number nodes path ≡ Ok number → resolve (links nodes) path ≡ Some number
  unfolding find_number
  find_number-resolve path number e = on_from path [] 1 (resolve-root (links nodes)) number e

  module _ (t : Tree B) (is : IsTreeOf nodes t) where
    -- the node with a number, as the tree's walk finds it
    abbrev pub node_at : ℕ → Result (Node B) Refusal
    node_at number = found (found_node nodes (Some number))

    at_done : (done : Names) (number : ℕ) → resolve (links nodes) done ≡ Some number → get t done ≡ option_map tree_node (get nodes number)
    at_done done number at = is.same done ∙ ap (found_node nodes) at

    lead_to : (done : Names) (number : ℕ) (name : List ℕ) (es : List Entry) → resolve (links nodes) done ≡ Some number → get nodes number ≡ Some (Directory es) → resolve (links nodes) (done ++ name ∷ []) ≡ entry_number es name
    lead_to done number name es at there = resolve-last (links nodes) done name ∙ ap (λ o. step (links nodes) o name) at ∙ links-of nodes number (Directory es) name there

    walk_on : (names done : Names) (number : ℕ) → resolve (links nodes) done ≡ Some number → (way_on t done names >>= (λ _. found (get t (done ++ names)))) ≡ (find_on nodes number names >>= node_at)
    walk_on [] done number at = ap (λ p. found (get t p)) (append-nil done) ∙ ap found (at_done done number at)
    walk_on (name ∷ names) done number at =
        ap (λ o. in_directory o (way_on t (done ++ name ∷ []) names) >>= (λ _. found (get t (done ++ name ∷ names)))) (at_done done number at)
        ∙ by_node (λ child led. walk_on names (done ++ name ∷ []) child led) (get nodes number) refl
      where
        missing : (names : Names) → get t (done ++ name ∷ []) ≡ None → (way_on t (done ++ name ∷ []) names >>= (λ _. found (get t (done ++ name ∷ names)))) ≡ Err Enoent
        missing [] none = ap found none
        missing (x ∷ names) none = ap (λ o. in_directory o (way_on t ((done ++ name ∷ []) ++ x ∷ []) names) >>= (λ _. found (get t (done ++ name ∷ x ∷ names)))) none

        by_child : ((child : ℕ) → resolve (links nodes) (done ++ name ∷ []) ≡ Some child → (way_on t (done ++ name ∷ []) names >>= (λ _. found (get t ((done ++ name ∷ []) ++ names)))) ≡ (find_on nodes child names >>= node_at)) → (es : List Entry) → get nodes number ≡ Some (Directory es) → (o : Option ℕ) → entry_number es name ≡ o → (way_on t (done ++ name ∷ []) names >>= (λ _. found (get t (done ++ name ∷ names)))) ≡ ((named o >>= (λ child. find_on nodes child names)) >>= node_at)
        by_child later es there None led = missing names (is.same (done ++ name ∷ []) ∙ ap (found_node nodes) (lead_to done number name es at there ∙ led))
        by_child later es there (Some child) led =
            ap (λ p. way_on t (done ++ name ∷ []) names >>= (λ _. found (get t p))) (sym (append_assoc done (name ∷ []) names))
            ∙ later child (lead_to done number name es at there ∙ led)

        by_node : ((child : ℕ) → resolve (links nodes) (done ++ name ∷ []) ≡ Some child → (way_on t (done ++ name ∷ []) names >>= (λ _. found (get t ((done ++ name ∷ []) ++ names)))) ≡ (find_on nodes child names >>= node_at)) → (o : Option (NumberedNode B)) → get nodes number ≡ o → (in_directory (option_map tree_node o) (way_on t (done ++ name ∷ []) names) >>= (λ _. found (get t (done ++ name ∷ names)))) ≡ ((entries_in o >>= (λ es. named (entry_number es name) >>= (λ child. find_on nodes child names))) >>= node_at)
        by_node later None there = refl
        by_node later (Some (Leaf content)) there = refl
        by_node later (Some (Directory es)) there = by_child later es there (entry_number es name) refl

    -- the tree's walk leads where the numbers lead
    pub walk-find : (path : Names) → walk t path ≡ (find_number nodes path >>= node_at)
    unfolding walk walk_to_parent find_number
    walk-find path = walk_on path [] 1 (resolve-root (links nodes))

    parent_on : (names done : Names) (number : ℕ) (name : List ℕ) → resolve (links nodes) done ≡ Some number → way_on t done (names ++ name ∷ []) ≡ (find_on nodes number names >>= (λ n. entries_in (get nodes n) >>= (λ _. Ok tt)))
    parent_on [] done number name at = ap (λ o. in_directory o (Ok tt)) (at_done done number at) ∙ by_node (get nodes number)
      where
        by_node : (o : Option (NumberedNode B)) → ◌≡◌ {A = Result (Unit {0}) Refusal} (in_directory (option_map tree_node o) (Ok tt)) (entries_in o >>= (λ _. Ok tt))
        by_node None = refl
        by_node (Some (Leaf content)) = refl
        by_node (Some (Directory es)) = refl
    parent_on (x ∷ names) done number name at =
        ap (λ o. in_directory o (way_on t (done ++ x ∷ []) (names ++ name ∷ []))) (at_done done number at)
        ∙ by_node (λ child led. parent_on names (done ++ x ∷ []) child name led) (get nodes number) refl
      where
        missing : (names : Names) → get t (done ++ x ∷ []) ≡ None → way_on t (done ++ x ∷ []) (names ++ name ∷ []) ≡ Err Enoent
        missing [] none = ap (λ o. in_directory o (Ok tt)) none
        missing (y ∷ names) none = ap (λ o. in_directory o (way_on t ((done ++ x ∷ []) ++ y ∷ []) (names ++ name ∷ []))) none

        by_child : ((child : ℕ) → resolve (links nodes) (done ++ x ∷ []) ≡ Some child → way_on t (done ++ x ∷ []) (names ++ name ∷ []) ≡ (find_on nodes child names >>= (λ n. entries_in (get nodes n) >>= (λ _. Ok tt)))) → (es : List Entry) → get nodes number ≡ Some (Directory es) → (o : Option ℕ) → entry_number es x ≡ o → way_on t (done ++ x ∷ []) (names ++ name ∷ []) ≡ ((named o >>= (λ child. find_on nodes child names)) >>= (λ n. entries_in (get nodes n) >>= (λ _. Ok tt)))
        by_child later es there None led = missing names (is.same (done ++ x ∷ []) ∙ ap (found_node nodes) (lead_to done number x es at there ∙ led))
        by_child later es there (Some child) led = later child (lead_to done number x es at there ∙ led)

        by_node : ((child : ℕ) → resolve (links nodes) (done ++ x ∷ []) ≡ Some child → way_on t (done ++ x ∷ []) (names ++ name ∷ []) ≡ (find_on nodes child names >>= (λ n. entries_in (get nodes n) >>= (λ _. Ok tt)))) → (o : Option (NumberedNode B)) → get nodes number ≡ o → in_directory (option_map tree_node o) (way_on t (done ++ x ∷ []) (names ++ name ∷ [])) ≡ ((entries_in o >>= (λ es. named (entry_number es x) >>= (λ child. find_on nodes child names))) >>= (λ n. entries_in (get nodes n) >>= (λ _. Ok tt)))
        by_node later None there = refl
        by_node later (Some (Leaf content)) there = refl
        by_node later (Some (Directory es)) there = by_child later es there (entry_number es x) refl

    -- and the walk to the parent leads to the directory of the last name
    pub walk_to_parent-find : (front : Names) (name : List ℕ) → walk_to_parent t (front ++ name ∷ []) ≡ (find_parent nodes (front ++ name ∷ []) >>= (λ _. Ok tt))
    unfolding walk_to_parent find_number
    walk_to_parent-find front name = parent_on front [] 1 name (resolve-root (links nodes))
        ∙ sym (ap (λ o. o >>= (λ _. Ok tt)) (find_parent-push front name) ∙ by_front (find_on nodes 1 front))
      where
        by_entries : (number : ℕ) (o : Result (List Entry) Refusal) → ◌≡◌ {A = Result (Unit {0}) Refusal} ((o >>= (λ es. Ok (parent_with number es))) >>= (λ _. Ok tt)) (o >>= (λ _. Ok tt))
        by_entries number (Ok es) = refl
        by_entries number (Err why) = refl

        by_front : (o : Result ℕ Refusal) → ◌≡◌ {A = Result (Unit {0}) Refusal} ((o >>= (λ number. entries_in (get nodes number) >>= (λ es. Ok (parent_with number es)))) >>= (λ _. Ok tt)) (o >>= (λ n. entries_in (get nodes n) >>= (λ _. Ok tt)))
        by_front (Ok number) = by_entries number (entries_in (get nodes number))
        by_front (Err why) = refl
