-- The rules by numbers agree with the rules of trees: renaming.
use Rattle.std.proofs.Common.{arith, ◌≡◌, ℕ, ◌<◌, ◌^◌, Bool, true, false, ◌&&◌, nat_eq, cond, not, List, [], ◌∷◌, ◌++◌, length, Option, Some, None, is_some, Result, Ok, Err, inl, inr, refl, ap, ◌∙◌, sym, subst, if◌then◌else◌}
use Rattle.std.proofs.lemmas.List.{append_assoc, append-nil, same_from_push, length-map}
use Rattle.std.proofs.lemmas.Bool.Decides.{nat_tests}
use Rattle.std.specs.Option.{option_map}
use Rattle.std.specs.Ordering.{eq_by_cmp}
use Rattle.std.specs.FinMap.{get, insert}
use Rattle.hl_tree.specs.declared.call.Limits.{Limits}
use Rattle.hl_tree.specs.declared.call.Reply.TheVariants as replies
use Rattle.hl_tree.specs.declared.call.Refusal.{Refusal}
use Rattle.hl_tree.specs.declared.call.Refusal.TheVariants.{Enotempty}
use Rattle.hl_tree.specs.declared.node.Node.TheVariants.{Dir}
use Rattle.hl_tree.specs.Names.{path_cmp, below}
use Rattle.hl_tree.specs.Refusals.{◌>>=◌, refused_if}
use Rattle.hl_tree.specs.Rules as rules
use Rattle.hl_tree.specs.Tree.{Tree, walk_to_parent, moved}
use Rattle.hl_tree.proofs.NamesBelow.{append-below}
use Rattle.hl_tree.proofs.Moved.{Names}
use Rattle.hl_dir.specs.declared.entry.Entry.{Entry}
use Rattle.hl_dir.specs.Dirs.{IsName, HaveRoom}
use Rattle.hl_paths.specs.Links.{step, resolve, follow, same_name, same_number}
use Rattle.hl_paths.specs.Entries.{entry_number, with_entry, without_entry, AreWith}
use Rattle.hl_paths.specs.Numbered.{NumberedNode, Directory, Leaf, Numbering, links, IsTreeOf, tree_node, found_node}
use Rattle.hl_paths.specs.Finding.{named, last_name, Parent, find_parent}
use Rattle.hl_paths.specs.Agreement.{Agree}
use Rattle.hl_paths.specs.ByNumbers as numbers
use Rattle.hl_paths.proofs.Links.{none_some, true_false, last_of, follow-none, resolve-root, resolve-append, resolve-last}
use Rattle.hl_paths.proofs.Relinks.{number_is, number_differs}
use Rattle.hl_paths.proofs.Entries.{AreWith-with_entry, AreWith-without_entry}
use Rattle.hl_paths.proofs.Nodes.{path_differs, links-of, some_of, get-put_here, get-put_other, entries-relinked, leads_nowhere}
use Rattle.hl_paths.proofs.Names.{get-child, names_in-entries}
use Rattle.hl_paths.proofs.Finding.{last_name-push, walk_to_parent-find}
use Rattle.hl_paths.proofs.Moved.{IsTreeOf-moved}
use Rattle.hl_paths.proofs.Agreement.{both_refused, at_root, parent_found}

-- the number of an entry has room in its field
number_room : (es : List Entry) (name : List ℕ) (number : ℕ) → HaveRoom es → entry_number es name ≡ Some number → number < 2 ^ 32
number_room [] name number room e = absurd (none_some e)
number_room (x ∷ es) name number room e = elim (same_name name x.name) as (λ b. cond b (Some x.ino) (entry_number es name) ≡ Some number → number < 2 ^ 32) [
  | true ↦ λ f. let same : x.ino ≡ number = cc in subst (λ n. n < 2 ^ 32) same room.0.0
  | false ↦ λ f. number_room es name number room.1 f
] e

is_directory_of : {B : Type 0} (o : Option (NumberedNode B)) (es : List Entry) → o ≡ Some (Directory es) → o ≡ Some (Directory (numbers.entries_or_none o))
is_directory_of o es e = e ∙ ap (λ x. Some (Directory x)) (sym (ap numbers.entries_or_none e))

module _ {B : Type 0} (limits : Limits) (nodes : Numbering B) (t : Tree B) (is : IsTreeOf nodes t)
    (front : Names) (name : List ℕ) (parent : Parent) (at : resolve (links nodes) front ≡ Some parent.number) (there : get nodes parent.number ≡ Some (Directory parent.entries))
    (number : ℕ) (led : entry_number parent.entries name ≡ Some number) (from_at : resolve (links nodes) (front ++ name ∷ []) ≡ Some number)
    (node : NumberedNode B) (node_there : get nodes number ≡ Some node) where
  abbrev from : Names
  from = front ++ name ∷ []

  -- THE MOVE

  module _ (to_front : Names) (to_name : List ℕ) (is_name : IsName to_name) (to_parent : Parent) (to_at : resolve (links nodes) to_front ≡ Some to_parent.number) (to_there : get nodes to_parent.number ≡ Some (Directory to_parent.entries))
      (differ : eq_by_cmp path_cmp from (to_front ++ to_name ∷ []) ≡ false) (not_into : (numbers.is_directory_node (Some node) && is_some (below from (to_front ++ to_name ∷ []))) ≡ false)
      (childless : (k : ℕ) → entry_number to_parent.entries to_name ≡ Some k → (named : List ℕ) → links nodes k named ≡ None) where
    abbrev to : Names
    to = to_front ++ to_name ∷ []

    abbrev left : List Entry
    left = without_entry name (numbers.entries_or_none (get nodes parent.number))

    abbrev taken : Numbering B
    taken = insert nodes parent.number (Directory left)

    without : AreWith parent.entries name None left
    without = subst (λ es. AreWith parent.entries name None (without_entry name es)) (sym (ap numbers.entries_or_none there)) (AreWith-without_entry name parent.entries (is.linked.entries parent.number parent.entries there))

    abbrev to_old : List Entry
    to_old = numbers.entries_or_none (get taken to_parent.number)

    to_there_still : get taken to_parent.number ≡ Some (Directory to_old)
    to_there_still = elim (same_number to_parent.number parent.number) as (λ b. same_number to_parent.number parent.number ≡ b → get taken to_parent.number ≡ Some (Directory to_old)) [
      | true ↦ λ e. is_directory_of _ left (ap (get taken) (number_is to_parent.number parent.number e) ∙ get-put_here nodes parent.number (Directory left))
      | false ↦ λ e. is_directory_of _ to_parent.entries (get-put_other nodes parent.number (Directory left) to_parent.number (number_differs to_parent.number parent.number e) ∙ to_there)
    ] refl

    to_led : resolve (links nodes) to ≡ entry_number to_parent.entries to_name
    to_led = resolve-last (links nodes) to_front to_name ∙ ap (λ o. step (links nodes) o to_name) to_at ∙ links-of nodes to_parent.number (Directory to_parent.entries) to_name to_there

    -- to isn't at or below from
    not_below_from : (rest : Names) → from ++ rest ≡ to → below from to ≡ Some rest → ⊥
    not_below_from [] e b = path_differs from to differ (sym (append-nil from) ∙ e)
    not_below_from (x ∷ xs) e b = by_node node refl
      where
        no_file : (content : B) → node ≡ Leaf content → (ys : Names) → follow (links nodes) (Some number) ys ≡ Some to_parent.number → ⊥
        no_file content n [] f =
            let one : number ≡ to_parent.number = cc in
            let both : Some (Leaf content) ≡ Some (Directory to_parent.entries) = ap Some (sym n) ∙ sym node_there ∙ ap (get nodes) one ∙ to_there in
            cc
        no_file content n (y ∷ ys) f = none_some (sym (leads_nowhere nodes number (λ named. links-of nodes number (Leaf content) named (node_there ∙ ap Some n)) ys y) ∙ f)

        below_file : (content : B) → node ≡ Leaf content → (ys : Names) (z : List ℕ) → x ∷ xs ≡ ys ++ z ∷ [] → ⊥
        below_file content n ys z f =
            let same = same_from_push (from ++ ys) to_front z to_name (append_assoc from ys (z ∷ []) ∙ ap (λ r. from ++ r) (sym f) ∙ e) in
            no_file content n ys (sym (ap (λ o. follow (links nodes) o ys) from_at) ∙ sym (resolve-append (links nodes) from ys) ∙ ap (resolve (links nodes)) same.0 ∙ to_at)

        by_node : (m : NumberedNode B) → node ≡ m → ⊥
        by_node (Directory ds) n = true_false (sym (ap is_some b) ∙ ap (λ m. numbers.is_directory_node (Some m) && is_some (below from to)) (sym n) ∙ not_into)
        by_node (Leaf content) n = elim (last_of (x ∷ xs)) as (λ _. ⊥) [
          | inl root ↦ cc
          | inr (ys, z, f) ↦ below_file content n ys z f
        ]

    -- from isn't at or below to
    not_below_to : (rest : Names) → to ++ rest ≡ from → ⊥
    not_below_to [] e = path_differs from to differ (sym e ∙ append-nil to)
    not_below_to (x ∷ xs) e = none_some (sym (leads (entry_number to_parent.entries to_name) refl) ∙ ap (λ o. follow (links nodes) o (x ∷ xs)) (sym to_led) ∙ sym (resolve-append (links nodes) to (x ∷ xs)) ∙ ap (resolve (links nodes)) e ∙ from_at)
      where
        leads : (o : Option ℕ) → entry_number to_parent.entries to_name ≡ o → follow (links nodes) o (x ∷ xs) ≡ None
        leads None f = follow-none (links nodes) xs
        leads (Some k) f = leads_nowhere nodes k (childless k f) xs x

    from_to : below from to ≡ None
    from_to = elim (below from to) as (λ o. below from to ≡ o → o ≡ None) [
      | None ↦ λ b. refl
      | Some rest ↦ λ b. absurd (not_below_from rest (append-below from to rest b) b)
    ] refl

    to_from : below to from ≡ None
    to_from = elim (below to from) as (λ o. below to from ≡ o → o ≡ None) [
      | None ↦ λ b. refl
      | Some rest ↦ λ b. absurd (not_below_to rest (append-below to from rest b))
    ] refl

    move : IsTreeOf (numbers.renamed_nodes limits nodes parent.number name number to_parent.number to_name (entry_number to_parent.entries to_name)) (moved t from to)
    move = IsTreeOf-moved nodes t is front name parent.number parent.entries left at there number led without
        to_front to_name to_parent.number to_old (with_entry to_name number to_old) to_at to_there_still
        (AreWith-with_entry to_name number to_old (entries-relinked nodes parent.number parent.entries left there without.entries is.linked.entries to_parent.number to_old to_there_still) is_name
        (number_room parent.entries name number (is.linked.entries parent.number parent.entries there).0 led))
        to_parent.entries to_there childless from_to to_from

  -- WHAT STANDS AT THE TARGET

  abbrev Files_after : Names → Tree B
  Files_after to = moved t from to

  pub same_kind : (m : NumberedNode B) → rules.is_directory limits t (tree_node m) ≡ numbers.is_directory_node (Some m)
  same_kind (Directory ds) = refl
  same_kind (Leaf content) = refl

  module _ (to_front : Names) (to_name : List ℕ) (is_name : IsName to_name) (to_parent : Parent) (to_at : resolve (links nodes) to_front ≡ Some to_parent.number) (to_there : get nodes to_parent.number ≡ Some (Directory to_parent.entries))
      (differ : eq_by_cmp path_cmp from (to_front ++ to_name ∷ []) ≡ false) (not_into : (numbers.is_directory_node (Some node) && is_some (below from (to_front ++ to_name ∷ []))) ≡ false) where
    abbrev aim : Names
    aim = to_front ++ to_name ∷ []

    abbrev renamed : Numbering B
    renamed = numbers.renamed_nodes limits nodes parent.number name number to_parent.number to_name (entry_number to_parent.entries to_name)

    go : ((k : ℕ) → entry_number to_parent.entries to_name ≡ Some k → (named : List ℕ) → links nodes k named ≡ None) → IsTreeOf renamed (moved t from aim)
    go childless = move to_front to_name is_name to_parent to_at to_there differ not_into childless

    one_number : (k : ℕ) → entry_number to_parent.entries to_name ≡ Some k → ((named : List ℕ) → links nodes k named ≡ None) → (j : ℕ) → entry_number to_parent.entries to_name ≡ Some j → (named : List ℕ) → links nodes j named ≡ None
    one_number k e none j f named = let same : Some k ≡ Some j = sym e ∙ f in let one : k ≡ j = cc in ap (λ n. links nodes n named) (sym one) ∙ none named

    no_entry : (es : List Entry) → nat_eq (length es) 0 ≡ true → (named : List ℕ) → entry_number es named ≡ None
    no_entry [] e named = refl
    no_entry (x ∷ es) e named = let no : ⊥ = grind arith in absurd no

    turned : (b : Bool) → not b ≡ false → b ≡ true
    turned true e = refl
    turned false e = absurd (true_false e)

    target_node : (m : NumberedNode B) → node ≡ m → (k : ℕ) → entry_number to_parent.entries to_name ≡ Some k → (target : NumberedNode B) → get nodes k ≡ Some target
        → Agree (moved t from aim) (rules.replaced limits t (tree_node m) aim (Some (tree_node target)) >>= (λ _. Ok (replies.Ok, moved t from aim)))
        (numbers.may_replace (numbers.is_directory_node (Some m)) (Some target) >>= (λ _. Ok (replies.Ok, renamed)))
    target_node (Directory ds) n k e (Leaf old) f = refl
    target_node (Leaf content) n k e (Directory es) f = refl
    target_node (Leaf content) n k e (Leaf old) f = (refl, go (one_number k e (λ named. links-of nodes k (Leaf old) named f)))
    target_node (Directory ds) n k e (Directory es) f =
        subst (λ c. Agree (moved t from aim) (refused_if (not (nat_eq c 0)) Enotempty >>= (λ _. Ok (replies.Ok, moved t from aim))) (refused_if (not (nat_eq (length es) 0)) Enotempty >>= (λ _. Ok (replies.Ok, renamed))))
        (sym (ap length (names_in-entries nodes t is aim k es (to_found k e) f) ∙ length-map es (λ x. x.name)))
        (both_refused (moved t from aim) (not (nat_eq (length es) 0)) Enotempty _ _ (λ empty. (refl, go (one_number k e (λ named. links-of nodes k (Directory es) named f ∙ no_entry es (turned _ empty) named)))))
      where
        to_found : (k : ℕ) → entry_number to_parent.entries to_name ≡ Some k → resolve (links nodes) aim ≡ Some k
        to_found k e = resolve-last (links nodes) to_front to_name ∙ ap (λ o. step (links nodes) o to_name) to_at ∙ links-of nodes to_parent.number (Directory to_parent.entries) to_name to_there ∙ e

    no_target : (m : NumberedNode B) → entry_number to_parent.entries to_name ≡ None
        → Agree (moved t from aim) (rules.replaced limits t (tree_node m) aim None >>= (λ _. Ok (replies.Ok, moved t from aim)))
        (numbers.may_replace {B = B} (numbers.is_directory_node (Some m)) None >>= (λ _. Ok (replies.Ok, renamed)))
    no_target m e = (refl, go (λ k f. absurd (none_some (sym e ∙ f))))

    target_number : (o : Option ℕ) → entry_number to_parent.entries to_name ≡ o
        → Agree (moved t from aim) (rules.replaced limits t (tree_node node) aim (found_node nodes o) >>= (λ _. Ok (replies.Ok, moved t from aim)))
        (numbers.may_replace (numbers.is_directory_node (Some node)) (numbers.at_number limits nodes o) >>= (λ _. Ok (replies.Ok, renamed)))
    target_number None e = no_target node e
    target_number (Some k) e =
        let target = some_of (get nodes k) (is.linked.used to_parent.number to_name k (links-of nodes to_parent.number (Directory to_parent.entries) to_name to_there ∙ e)) in
        subst (λ o. Agree (moved t from aim) (rules.replaced limits t (tree_node node) aim (option_map tree_node o) >>= (λ _. Ok (replies.Ok, moved t from aim)))
        (numbers.may_replace (numbers.is_directory_node (Some node)) o >>= (λ _. Ok (replies.Ok, renamed)))) (sym target.1) (target_node node refl k e target.0 target.1)

    target_there : Agree (moved t from aim) (rules.replaced limits t (tree_node node) aim (get t aim) >>= (λ _. Ok (replies.Ok, moved t from aim)))
        (numbers.may_replace (numbers.is_directory_node (Some node)) (numbers.at_number limits nodes (entry_number to_parent.entries to_name)) >>= (λ _. Ok (replies.Ok, renamed)))
    target_there = subst (λ o. Agree (moved t from aim) (rules.replaced limits t (tree_node node) aim o >>= (λ _. Ok (replies.Ok, moved t from aim)))
        (numbers.may_replace (numbers.is_directory_node (Some node)) (numbers.at_number limits nodes (entry_number to_parent.entries to_name)) >>= (λ _. Ok (replies.Ok, renamed))))
        (sym (get-child nodes t is to_front to_parent.number to_parent.entries to_at to_there to_name)) (target_number (entry_number to_parent.entries to_name) refl)

  -- the way to the target
  module _ (to_front : Names) (to_name : List ℕ) (is_name : IsName to_name) (differ : eq_by_cmp path_cmp from (to_front ++ to_name ∷ []) ≡ false) (not_into : (numbers.is_directory_node (Some node) && is_some (below from (to_front ++ to_name ∷ []))) ≡ false) where
    abbrev goal : Names
    goal = to_front ++ to_name ∷ []

    by_to_parent : (o : Result Parent Refusal) → find_parent nodes goal ≡ o
        → Agree (moved t from goal) ((o >>= (λ _. Ok (tt {0}))) >>= (λ _. rules.replaced limits t (tree_node node) goal (get t goal) >>= (λ _. Ok (replies.Ok, moved t from goal))))
        (o >>= (λ to_parent. numbers.may_replace (numbers.is_directory_node (Some node)) (numbers.at_number limits nodes (entry_number to_parent.entries to_name))
        >>= (λ _. Ok (replies.Ok, numbers.renamed_nodes limits nodes parent.number name number to_parent.number to_name (entry_number to_parent.entries to_name)))))
    by_to_parent (Err why) e = refl
    by_to_parent (Ok to_parent) e = let here = parent_found nodes to_front to_name to_parent e in target_there to_front to_name is_name to_parent here.0 here.1 differ not_into

    pub to_goal : Agree (moved t from goal) (walk_to_parent t goal >>= (λ _. rules.replaced limits t (tree_node node) goal (get t goal) >>= (λ _. Ok (replies.Ok, moved t from goal))))
        (if nat_eq (length goal) 0 then numbers.onto_root (numbers.is_directory_node (Some node)) else (find_parent nodes goal >>= (λ to_parent. numbers.may_replace (numbers.is_directory_node (Some node)) (numbers.at_number limits nodes (entry_number to_parent.entries (last_name goal)))
        >>= (λ _. Ok (replies.Ok, numbers.renamed_nodes limits nodes parent.number name number to_parent.number (last_name goal) (entry_number to_parent.entries (last_name goal)))))))
    to_goal = subst (λ b. Agree (moved t from goal) (walk_to_parent t goal >>= (λ _. rules.replaced limits t (tree_node node) goal (get t goal) >>= (λ _. Ok (replies.Ok, moved t from goal))))
        (if b then numbers.onto_root (numbers.is_directory_node (Some node)) else (find_parent nodes goal >>= (λ to_parent. numbers.may_replace (numbers.is_directory_node (Some node)) (numbers.at_number limits nodes (entry_number to_parent.entries (last_name goal)))
        >>= (λ _. Ok (replies.Ok, numbers.renamed_nodes limits nodes parent.number name number to_parent.number (last_name goal) (entry_number to_parent.entries (last_name goal))))))))
        (sym (at_root to_name to_front))
        (subst (λ last. Agree (moved t from goal) (walk_to_parent t goal >>= (λ _. rules.replaced limits t (tree_node node) goal (get t goal) >>= (λ _. Ok (replies.Ok, moved t from goal))))
        (find_parent nodes goal >>= (λ to_parent. numbers.may_replace (numbers.is_directory_node (Some node)) (numbers.at_number limits nodes (entry_number to_parent.entries last))
        >>= (λ _. Ok (replies.Ok, numbers.renamed_nodes limits nodes parent.number name number to_parent.number last (entry_number to_parent.entries last))))))
        (sym (last_name-push to_front to_name))
        (subst (λ way. Agree (moved t from goal) (way >>= (λ _. rules.replaced limits t (tree_node node) goal (get t goal) >>= (λ _. Ok (replies.Ok, moved t from goal))))
        (find_parent nodes goal >>= (λ to_parent. numbers.may_replace (numbers.is_directory_node (Some node)) (numbers.at_number limits nodes (entry_number to_parent.entries to_name))
        >>= (λ _. Ok (replies.Ok, numbers.renamed_nodes limits nodes parent.number name number to_parent.number to_name (entry_number to_parent.entries to_name))))))
        (sym (walk_to_parent-find nodes t is to_front to_name)) (by_to_parent (find_parent nodes goal) refl)))

  -- the root has a name where another node is found
  root_names : (path : Names) → path ≡ from → nat_eq (length is.linked.root.0) 0 ≡ false
  root_names [] e = absurd (nothing front (ap length e))
    where
      nothing : (front : Names) → 0 ≡ length (front ++ name ∷ []) → ⊥
      nothing front e = let long = at_root name front in let no : nat_eq 0 0 ≡ false = ap (λ n. nat_eq n 0) e ∙ long in true_false no
  root_names (x ∷ path) e = by_entries is.linked.root.0 is.linked.root.1
    where
      by_entries : (es : List Entry) → get nodes 1 ≡ Some (Directory es) → nat_eq (length es) 0 ≡ false
      by_entries [] root = absurd (none_some (sym (leads_nowhere nodes 1 (λ named. links-of nodes 1 (Directory []) named root) path x) ∙ ap (λ o. follow (links nodes) o (x ∷ path)) (sym (resolve-root (links nodes))) ∙ sym (resolve-append (links nodes) [] (x ∷ path)) ∙ ap (resolve (links nodes)) e ∙ from_at))
      by_entries (y ∷ es) root = grind (arith, nat_tests)

  root_taken : rules.has_names limits t [] ≡ true
  root_taken = ap (λ n. not (nat_eq n 0)) (ap length (names_in-entries nodes t is [] 1 is.linked.root.0 (resolve-root (links nodes)) is.linked.root.1) ∙ length-map is.linked.root.0 (λ x. x.name))
      ∙ ap not (root_names from refl)

  pub onto_root : (m : NumberedNode B) → Agree (moved t from []) (rules.replaced limits t (tree_node m) [] (get t []) >>= (λ _. Ok (replies.Ok, moved t from []))) (numbers.onto_root (numbers.is_directory_node (Some m)))
  onto_root m = subst (λ o. Agree (moved t from []) (rules.replaced limits t (tree_node m) [] o >>= (λ _. Ok (replies.Ok, moved t from []))) (numbers.onto_root (numbers.is_directory_node (Some m))))
      (sym (is.same [] ∙ ap (found_node nodes) (resolve-root (links nodes)) ∙ ap (option_map tree_node) is.linked.root.1)) (by_node m)
    where
      by_node : (m : NumberedNode B) → Agree (moved t from []) (rules.replaced limits t (tree_node m) [] (Some Dir) >>= (λ _. Ok (replies.Ok, moved t from []))) (numbers.onto_root (numbers.is_directory_node (Some m)))
      by_node (Directory ds) = subst (λ b. Agree (moved t from []) (refused_if b Enotempty >>= (λ _. Ok (replies.Ok, moved t from []))) (numbers.onto_root {B = B} true)) (sym root_taken) refl
      by_node (Leaf content) = refl
