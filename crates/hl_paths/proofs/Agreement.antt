-- The rules by numbers agree with the rules of trees: the calls that make, list and take away nodes.
use Rattle.std.proofs.Common.{arith, ◌≡◌, ℕ, ◌-◌, ◌<◌, ◌≤◌, ◌^◌, Bool, true, false, ◌||◌, nat_eq, nat_lt, nat_le, not, List, [], ◌∷◌, ◌++◌, length, get_or, Option, Some, None, is_some, is_none, Result, Ok, Err, inl, inr, refl, ap, ◌∙◌, sym, subst}
use Rattle.std.proofs.lemmas.Bool.Decides.{nat_tests}
use Rattle.std.proofs.lemmas.List.{get_or-append_right, length_push, length-map}
use Rattle.std.specs.List.{list_any}
use Rattle.std.specs.Option.{option_map}
use Rattle.std.specs.FinMap.{get, insert, remove, len}
use Rattle.hl_tree.specs.declared.call.Limits.{Limits}
use Rattle.hl_tree.specs.declared.call.Reply.{Reply}
use Rattle.hl_tree.specs.declared.call.Reply.TheVariants as replies
use Rattle.hl_tree.specs.declared.call.Refusal.{Refusal}
use Rattle.hl_tree.specs.declared.call.Refusal.TheVariants.{Eexist, Eisdir, Enotempty, Einval, Enametoolong, Einodes}
use Rattle.hl_tree.specs.Names.{AreNames, is_too_long, path_length}
use Rattle.hl_tree.specs.Names as tree_names
use Rattle.hl_tree.specs.Refusals.{◌>>=◌, refused_if}
use Rattle.hl_tree.specs.Rules as rules
use Rattle.hl_tree.specs.Tree.{Tree, walk, walk_to_parent, found, directory, content_of, names_in}
use Rattle.hl_tree.proofs.Moved.{Names}
use Rattle.hl_dir.specs.declared.entry.Entry.{Entry}
use Rattle.hl_dir.specs.Dirs.{IsName, AreEntries}
use Rattle.hl_paths.specs.Links.{resolve}
use Rattle.hl_paths.specs.Entries.{entry_number, with_entry, without_entry, entry_names}
use Rattle.hl_paths.specs.Numbered.{NumberedNode, Directory, Leaf, Numbering, number_in, links, IsTreeOf, tree_node}
use Rattle.hl_paths.specs.Finding.{named, Parent, parent_with, entries_in, leaf_in, find_number, find_parent}
use Rattle.hl_paths.specs.Free.{lowest_free, AreUpTo}
use Rattle.hl_paths.specs.Agreement.{Agree}
use Rattle.hl_paths.specs.ByNumbers as numbers
use Rattle.hl_paths.proofs.Links.{true_false, last_of}
use Rattle.hl_paths.proofs.Entries.{AreWith-with_entry, AreWith-without_entry}
use Rattle.hl_paths.proofs.Nodes.{links-of}
use Rattle.hl_paths.proofs.Names.{child_there, names_in-entries}
use Rattle.hl_paths.proofs.Counts.{len-tree}
use Rattle.hl_paths.proofs.Free.{lowest_free-free, lowest_free-none}
use Rattle.hl_paths.proofs.Finding.{last_name-push, find_parent-push, find_number-push, find_number-resolve, node_at, walk-find, walk_to_parent-find}
use Rattle.hl_paths.proofs.Made.{IsTreeOf-made}
use Rattle.hl_paths.proofs.Removed.{IsTreeOf-removed}

-- one rule on both sides
pub both_refused : {B C : Type 0} (after : Tree B) (b : Bool) (why : Refusal) (done : Result (Reply × C) Refusal) (by_numbers : Result (Reply × Numbering B) Refusal) → (b ≡ false → Agree after done by_numbers)
    → Agree after (refused_if b why >>= (λ _. done)) (refused_if b why >>= (λ _. by_numbers))
both_refused after true why done by_numbers agree = refl
both_refused after false why done by_numbers agree = agree refl

-- the root on both sides
pub at_root : (name : List ℕ) (front : Names) → nat_eq (length (front ++ name ∷ [])) 0 ≡ false
at_root name front = let long = length_push front name in grind (arith, nat_tests)

short_last : (front : Names) (name : List ℕ) → list_any (λ (n : List ℕ). nat_lt 255 (length n)) (front ++ name ∷ []) ≡ false → nat_lt 255 (length name) ≡ false
short_last [] name e = either (nat_lt 255 (length name)) e
  where
    either : (b : Bool) → (b || false) ≡ false → b ≡ false
    either true h = h
    either false h = refl
short_last (x ∷ front) name e = short_last front name (right (nat_lt 255 (length x)) _ e)
  where
    right : (a b : Bool) → (a || b) ≡ false → b ≡ false
    right true b h = absurd (true_false h)
    right false b h = h

-- the last name of a path that isn't too long is a name of a directory
pub last_is_name : (front : Names) (name : List ℕ) → AreNames (front ++ name ∷ []) → is_too_long (front ++ name ∷ []) ≡ false → IsName name
last_is_name front name names short =
    let within : length front < length (front ++ name ∷ []) = (let long = length_push front name in omega arith) in
    let none : length front - length front ≡ 0 = omega arith in
    let is : tree_names.IsName name = subst tree_names.IsName (get_or-append_right front (name ∷ []) (length front) (length front) [] refl (omega arith) ∙ ap (λ n. get_or (name ∷ []) n []) none) (names (length front) [] within) in
    record {
      some = not_empty name is.some;
      short = let limit = short_last front name (left _ (nat_lt 1023 (path_length (front ++ name ∷ []))) short) in grind (arith, nat_tests);
      plain = λ i h. is.bytes i 0 h;
    }
  where
    not_empty : (name : List ℕ) → (name ≡ [] → ⊥) → 1 ≤ length name
    not_empty [] h = absurd (h refl)
    not_empty (x ∷ name) h = omega arith

    left : (a b : Bool) → (a || b) ≡ false → a ≡ false
    left true b h = h
    left false b h = refl

module _ {B : Type 0} (nodes : Numbering B) where
  -- a parent that is found is a directory with these entries
  pub parent_found : (front : Names) (name : List ℕ) (parent : Parent) → find_parent nodes (front ++ name ∷ []) ≡ Ok parent → (resolve (links nodes) front ≡ Some parent.number) × (get nodes parent.number ≡ Some (Directory parent.entries))
  parent_found front name parent e = by_number (find_number nodes front) refl (sym (find_parent-push nodes front name) ∙ e)
    where
      by_node : (number : ℕ) → resolve (links nodes) front ≡ Some number → (o : Option (NumberedNode B)) → get nodes number ≡ o → (entries_in o >>= (λ es. Ok (parent_with number es))) ≡ Ok parent → (resolve (links nodes) front ≡ Some parent.number) × (get nodes parent.number ≡ Some (Directory parent.entries))
      by_node number at None there f = cc
      by_node number at (Some (Leaf content)) there f = cc
      by_node number at (Some (Directory es)) there f =
          let same : parent_with number es ≡ parent = cc in
          subst (λ p. (resolve (links nodes) front ≡ Some p.number) × (get nodes p.number ≡ Some (Directory p.entries))) same (at, there)

      by_number : (o : Result ℕ Refusal) → find_number nodes front ≡ o → (o >>= (λ number. entries_in (get nodes number) >>= (λ es. Ok (parent_with number es)))) ≡ Ok parent → (resolve (links nodes) front ≡ Some parent.number) × (get nodes parent.number ≡ Some (Directory parent.entries))
      by_number (Err why) there f = cc
      by_number (Ok number) there f = by_node number (find_number-resolve nodes front number there) (get nodes number) refl f

module _ {B : Type 0} (limits : Limits) (nodes : Numbering B) (t : Tree B) (is : IsTreeOf nodes t) where
  -- MAKING A NODE

  module _ (up_to : AreUpTo limits.nodes nodes) (few : limits.nodes < 2 ^ 32) (node : NumberedNode B) (no_links : (name : List ℕ) → number_in (Some node) name ≡ None) (no_entries : (es : List Entry) → node ≡ Directory es → AreEntries es) (front : Names) (name : List ℕ) where
    abbrev target : Names
    target = front ++ name ∷ []

    abbrev made : Parent → List ℕ → ℕ → Numbering B
    made parent last number = insert (insert nodes parent.number (Directory (with_entry last number parent.entries))) number node

    make_number : IsName name → (parent : Parent) → resolve (links nodes) front ≡ Some parent.number → get nodes parent.number ≡ Some (Directory parent.entries) → entry_number parent.entries name ≡ None → (o : Option ℕ) → lowest_free nodes limits.nodes ≡ o
        → Agree (insert t target (tree_node node)) (refused_if (is_none o) Einodes >>= (λ _. Ok (replies.Ok, insert t target (tree_node node)))) (numbers.found_free o >>= (λ number. Ok (replies.Ok, made parent name number)))
    make_number named parent at there free None e = refl
    make_number named parent at there free (Some number) e =
        let one = lowest_free-free nodes limits.nodes number e in
        let low = one.1 in
        let high = one.2 in
        let fits : number < 2 ^ 32 = omega arith in (
          refl,
          IsTreeOf-made nodes t is front name parent.number parent.entries (with_entry name number parent.entries) at there free number node one.0
              (AreWith-with_entry name number parent.entries (is.linked.entries parent.number parent.entries there) named fits) no_links no_entries,
        )

    make_name : IsName name → (parent : Parent) → resolve (links nodes) front ≡ Some parent.number → get nodes parent.number ≡ Some (Directory parent.entries) → (o : Option ℕ) → entry_number parent.entries name ≡ o
        → Agree (insert t target (tree_node node)) (refused_if (is_some o) Eexist >>= (λ _. refused_if (nat_le limits.nodes (len t)) Einodes >>= (λ _. Ok (replies.Ok, insert t target (tree_node node)))))
        (refused_if (is_some o) Eexist >>= (λ _. numbers.found_free (lowest_free nodes limits.nodes) >>= (λ number. Ok (replies.Ok, made parent name number))))
    make_name named parent at there (Some other) e = refl
    make_name named parent at there None e = subst
        (λ b. Agree (insert t target (tree_node node)) (refused_if b Einodes >>= (λ _. Ok (replies.Ok, insert t target (tree_node node)))) (numbers.found_free (lowest_free nodes limits.nodes) >>= (λ number. Ok (replies.Ok, made parent name number))))
        (sym (ap (nat_le limits.nodes) (len-tree nodes t is) ∙ lowest_free-none nodes limits.nodes up_to))
        (make_number named parent at there e (lowest_free nodes limits.nodes) refl)

    make_parent : IsName name → (o : Result Parent Refusal) → find_parent nodes target ≡ o
        → Agree (insert t target (tree_node node)) ((o >>= (λ _. Ok (tt {0}))) >>= (λ _. refused_if (is_some (get t target)) Eexist >>= (λ _. refused_if (nat_le limits.nodes (len t)) Einodes >>= (λ _. Ok (replies.Ok, insert t target (tree_node node))))))
        (o >>= (λ parent. refused_if (is_some (entry_number parent.entries name)) Eexist >>= (λ _. numbers.found_free (lowest_free nodes limits.nodes) >>= (λ number. Ok (replies.Ok, made parent name number)))))
    make_parent named (Err why) e = refl
    make_parent named (Ok parent) e =
        let here = parent_found nodes front name parent e in
        subst (λ b. Agree (insert t target (tree_node node)) (refused_if b Eexist >>= (λ _. refused_if (nat_le limits.nodes (len t)) Einodes >>= (λ _. Ok (replies.Ok, insert t target (tree_node node)))))
        (refused_if (is_some (entry_number parent.entries name)) Eexist >>= (λ _. numbers.found_free (lowest_free nodes limits.nodes) >>= (λ number. Ok (replies.Ok, made parent name number)))))
        (sym (child_there nodes t is front parent.number parent.entries here.0 here.1 name))
        (make_name named parent here.0 here.1 (entry_number parent.entries name) refl)

    pub agree-make_push : AreNames target → Agree (insert t target (tree_node node)) (rules.make limits t (tree_node node) target) (numbers.make_by_numbers limits nodes node target)
    unfolding rules.make numbers.make_by_numbers
    agree-make_push names =
        both_refused (insert t target (tree_node node)) (is_too_long target) Enametoolong _ _ (λ short.
        both_refused (insert t target (tree_node node)) (nat_eq (length target) 0) Eexist _ _ (λ some.
        subst (λ last. Agree (insert t target (tree_node node)) (walk_to_parent t target >>= (λ _. refused_if (is_some (get t target)) Eexist >>= (λ _. refused_if (nat_le limits.nodes (len t)) Einodes >>= (λ _. Ok (replies.Ok, insert t target (tree_node node))))))
        (find_parent nodes target >>= (λ parent. refused_if (is_some (entry_number parent.entries last)) Eexist >>= (λ _. numbers.found_free (lowest_free nodes limits.nodes) >>= (λ number. Ok (replies.Ok, made parent last number))))))
        (sym (last_name-push front name))
        (subst (λ way. Agree (insert t target (tree_node node)) (way >>= (λ _. refused_if (is_some (get t target)) Eexist >>= (λ _. refused_if (nat_le limits.nodes (len t)) Einodes >>= (λ _. Ok (replies.Ok, insert t target (tree_node node))))))
        (find_parent nodes target >>= (λ parent. refused_if (is_some (entry_number parent.entries name)) Eexist >>= (λ _. numbers.found_free (lowest_free nodes limits.nodes) >>= (λ number. Ok (replies.Ok, made parent name number))))))
        (sym (walk_to_parent-find nodes t is front name))
        (make_parent (last_is_name front name names short) (find_parent nodes target) refl))))

    none_made : Agree (insert t [] (tree_node node)) (rules.make limits t (tree_node node) []) (numbers.make_by_numbers limits nodes node [])
    unfolding rules.make numbers.make_by_numbers
    none_made = refl

  pub agree-make : AreUpTo limits.nodes nodes → limits.nodes < 2 ^ 32 → (node : NumberedNode B) → ((name : List ℕ) → number_in (Some node) name ≡ None) → ((es : List Entry) → node ≡ Directory es → AreEntries es)
      → (path : Names) → AreNames path → Agree (insert t path (tree_node node)) (rules.make limits t (tree_node node) path) (numbers.make_by_numbers limits nodes node path)
  agree-make up_to few node no_links no_entries path names = elim (last_of path) as (λ _. Agree (insert t path (tree_node node)) (rules.make limits t (tree_node node) path) (numbers.make_by_numbers limits nodes node path)) [
    | inl root ↦ subst (λ p. Agree (insert t p (tree_node node)) (rules.make limits t (tree_node node) p) (numbers.make_by_numbers limits nodes node p)) (sym root) (none_made up_to few node no_links no_entries [] [])
    | inr (front, name, e) ↦ subst (λ p. Agree (insert t p (tree_node node)) (rules.make limits t (tree_node node) p) (numbers.make_by_numbers limits nodes node p)) (sym e) (agree-make_push up_to few node no_links no_entries front name (subst AreNames e names))
  ]

  -- LISTING

  list_node : (path : Names) (number : ℕ) → resolve (links nodes) path ≡ Some number → (o : Option (NumberedNode B)) → get nodes number ≡ o
      → Agree t (found (option_map tree_node o) >>= (λ node. directory node >>= (λ _. Ok (replies.Names (names_in t path), t)))) (entries_in o >>= (λ es. Ok (replies.Names (entry_names es), nodes)))
  list_node path number at None there = refl
  list_node path number at (Some (Leaf content)) there = refl
  list_node path number at (Some (Directory es)) there = (ap replies.Names (names_in-entries nodes t is path number es at there), is)

  list_number : (path : Names) (o : Result ℕ Refusal) → find_number nodes path ≡ o
      → Agree t ((o >>= node_at nodes t is) >>= (λ node. directory node >>= (λ _. Ok (replies.Names (names_in t path), t)))) (o >>= (λ number. entries_in (get nodes number) >>= (λ es. Ok (replies.Names (entry_names es), nodes))))
  list_number path (Err why) e = refl
  list_number path (Ok number) e = list_node path number (find_number-resolve nodes path number e) (get nodes number) refl

  pub agree-list : (path : Names) → Agree t (rules.list limits t path) (numbers.list_by_numbers limits nodes path)
  unfolding rules.list numbers.list_by_numbers
  agree-list path = both_refused t (is_too_long path) Enametoolong _ _ (λ short.
      subst (λ found. Agree t (found >>= (λ node. directory node >>= (λ _. Ok (replies.Names (names_in t path), t)))) (find_number nodes path >>= (λ number. entries_in (get nodes number) >>= (λ es. Ok (replies.Names (entry_names es), nodes)))))
      (sym (walk-find nodes t is path)) (list_number path (find_number nodes path) refl))

  -- TAKING A NODE AWAY

  module _ (front : Names) (name : List ℕ) where
    abbrev place : Names
    place = front ++ name ∷ []

    remove_node : (parent : Parent) → resolve (links nodes) front ≡ Some parent.number → get nodes parent.number ≡ Some (Directory parent.entries) → (number : ℕ) → entry_number parent.entries name ≡ Some number → ((named : List ℕ) → links nodes number named ≡ None)
        → IsTreeOf (numbers.gone limits nodes parent name number) (remove t place)
    remove_node parent at there number led none_below = IsTreeOf-removed nodes t is front name parent.number parent.entries (without_entry name parent.entries) at there number led none_below
        (AreWith-without_entry name parent.entries (is.linked.entries parent.number parent.entries there))

    unlink_node : (parent : Parent) → resolve (links nodes) front ≡ Some parent.number → get nodes parent.number ≡ Some (Directory parent.entries) → (number : ℕ) → entry_number parent.entries name ≡ Some number → (o : Option (NumberedNode B)) → get nodes number ≡ o
        → Agree (remove t place) (found (option_map tree_node o) >>= (λ node. content_of node >>= (λ _. Ok (replies.Ok, remove t place)))) (leaf_in o >>= (λ _. Ok (replies.Ok, numbers.gone limits nodes parent name number)))
    unlink_node parent at there number led None node = refl
    unlink_node parent at there number led (Some (Directory es)) node = refl
    unlink_node parent at there number led (Some (Leaf content)) node = (refl, remove_node parent at there number led (λ named. links-of nodes number (Leaf content) named node))

    unlink_name : (parent : Parent) → resolve (links nodes) front ≡ Some parent.number → get nodes parent.number ≡ Some (Directory parent.entries) → (o : Option ℕ) → entry_number parent.entries name ≡ o
        → Agree (remove t place) ((named o >>= node_at nodes t is) >>= (λ node. content_of node >>= (λ _. Ok (replies.Ok, remove t place)))) (named o >>= (λ number. leaf_in (get nodes number) >>= (λ _. Ok (replies.Ok, numbers.gone limits nodes parent name number))))
    unlink_name parent at there None led = refl
    unlink_name parent at there (Some number) led = unlink_node parent at there number led (get nodes number) refl

    unlink_parent : (o : Result Parent Refusal) → find_parent nodes place ≡ o
        → Agree (remove t place) (((o >>= (λ parent. named (entry_number parent.entries name))) >>= node_at nodes t is) >>= (λ node. content_of node >>= (λ _. Ok (replies.Ok, remove t place))))
        (o >>= (λ parent. named (entry_number parent.entries name) >>= (λ number. leaf_in (get nodes number) >>= (λ _. Ok (replies.Ok, numbers.gone limits nodes parent name number)))))
    unlink_parent (Err why) e = refl
    unlink_parent (Ok parent) e = let here = parent_found nodes front name parent e in unlink_name parent here.0 here.1 (entry_number parent.entries name) refl

    pub walk-parent : walk t place ≡ ((find_parent nodes place >>= (λ parent. named (entry_number parent.entries name))) >>= node_at nodes t is)
    walk-parent = walk-find nodes t is place ∙ ap (λ o. o >>= node_at nodes t is) (find_number-push nodes front name)

    agree-unlink_push : Agree (remove t place) (rules.unlink limits t place) (numbers.unlink_by_numbers limits nodes place)
    unfolding rules.unlink numbers.unlink_by_numbers
    agree-unlink_push = both_refused (remove t place) (is_too_long place) Enametoolong _ _ (λ short. both_refused (remove t place) (nat_eq (length place) 0) Eisdir _ _ (λ some.
        subst (λ last. Agree (remove t place) (walk t place >>= (λ node. content_of node >>= (λ _. Ok (replies.Ok, remove t place))))
        (find_parent nodes place >>= (λ parent. named (entry_number parent.entries last) >>= (λ number. leaf_in (get nodes number) >>= (λ _. Ok (replies.Ok, numbers.gone limits nodes parent last number))))))
        (sym (last_name-push front name))
        (subst (λ found. Agree (remove t place) (found >>= (λ node. content_of node >>= (λ _. Ok (replies.Ok, remove t place))))
        (find_parent nodes place >>= (λ parent. named (entry_number parent.entries name) >>= (λ number. leaf_in (get nodes number) >>= (λ _. Ok (replies.Ok, numbers.gone limits nodes parent name number))))))
        (sym walk-parent) (unlink_parent (find_parent nodes place) refl))))

    no_entry : (es : List Entry) → nat_eq (length es) 0 ≡ true → (named : List ℕ) → entry_number es named ≡ None
    no_entry [] e named = refl
    no_entry (x ∷ es) e named = let no : ⊥ = grind arith in absurd no

    not_empty : (b : Bool) → not b ≡ false → b ≡ true
    not_empty true e = refl
    not_empty false e = absurd (true_false e)

    rmdir_node : (parent : Parent) → resolve (links nodes) front ≡ Some parent.number → get nodes parent.number ≡ Some (Directory parent.entries) → (number : ℕ) → resolve (links nodes) place ≡ Some number → entry_number parent.entries name ≡ Some number → (o : Option (NumberedNode B)) → get nodes number ≡ o
        → Agree (remove t place) (found (option_map tree_node o) >>= (λ node. directory node >>= (λ _. refused_if (rules.has_names limits t place) Enotempty >>= (λ _. Ok (replies.Ok, remove t place)))))
        (entries_in o >>= (λ es. refused_if (not (nat_eq (length es) 0)) Enotempty >>= (λ _. Ok (replies.Ok, numbers.gone limits nodes parent name number))))
    rmdir_node parent at there number child_at led None node = refl
    rmdir_node parent at there number child_at led (Some (Leaf content)) node = refl
    rmdir_node parent at there number child_at led (Some (Directory es)) node =
        subst (λ n. Agree (remove t place) (refused_if (not (nat_eq n 0)) Enotempty >>= (λ _. Ok (replies.Ok, remove t place))) (refused_if (not (nat_eq (length es) 0)) Enotempty >>= (λ _. Ok (replies.Ok, numbers.gone limits nodes parent name number))))
        (sym (ap length (names_in-entries nodes t is place number es child_at node) ∙ length-map es (λ e. e.name)))
        (both_refused (remove t place) (not (nat_eq (length es) 0)) Enotempty _ _ (λ e. (refl, remove_node parent at there number led (λ named. links-of nodes number (Directory es) named node ∙ no_entry es (not_empty _ e) named))))

    rmdir_name : (parent : Parent) → find_parent nodes place ≡ Ok parent → resolve (links nodes) front ≡ Some parent.number → get nodes parent.number ≡ Some (Directory parent.entries) → (o : Option ℕ) → entry_number parent.entries name ≡ o
        → Agree (remove t place) ((named o >>= node_at nodes t is) >>= (λ node. directory node >>= (λ _. refused_if (rules.has_names limits t place) Enotempty >>= (λ _. Ok (replies.Ok, remove t place)))))
        (named o >>= (λ number. entries_in (get nodes number) >>= (λ es. refused_if (not (nat_eq (length es) 0)) Enotempty >>= (λ _. Ok (replies.Ok, numbers.gone limits nodes parent name number)))))
    rmdir_name parent found_so at there None led = refl
    rmdir_name parent found_so at there (Some number) led = rmdir_node parent at there number
        (find_number-resolve nodes place number (find_number-push nodes front name ∙ ap (λ o. o >>= (λ parent. named (entry_number parent.entries name))) found_so ∙ ap named led)) led (get nodes number) refl

    rmdir_parent : (o : Result Parent Refusal) → find_parent nodes place ≡ o
        → Agree (remove t place) (((o >>= (λ parent. named (entry_number parent.entries name))) >>= node_at nodes t is) >>= (λ node. directory node >>= (λ _. refused_if (rules.has_names limits t place) Enotempty >>= (λ _. Ok (replies.Ok, remove t place)))))
        (o >>= (λ parent. named (entry_number parent.entries name) >>= (λ number. entries_in (get nodes number) >>= (λ es. refused_if (not (nat_eq (length es) 0)) Enotempty >>= (λ _. Ok (replies.Ok, numbers.gone limits nodes parent name number))))))
    rmdir_parent (Err why) e = refl
    rmdir_parent (Ok parent) e = let here = parent_found nodes front name parent e in rmdir_name parent e here.0 here.1 (entry_number parent.entries name) refl

    agree-rmdir_push : Agree (remove t place) (rules.rmdir limits t place) (numbers.rmdir_by_numbers limits nodes place)
    unfolding rules.rmdir numbers.rmdir_by_numbers
    agree-rmdir_push = both_refused (remove t place) (is_too_long place) Enametoolong _ _ (λ short. both_refused (remove t place) (nat_eq (length place) 0) Einval _ _ (λ some.
        subst (λ last. Agree (remove t place) (walk t place >>= (λ node. directory node >>= (λ _. refused_if (rules.has_names limits t place) Enotempty >>= (λ _. Ok (replies.Ok, remove t place)))))
        (find_parent nodes place >>= (λ parent. named (entry_number parent.entries last) >>= (λ number. entries_in (get nodes number) >>= (λ es. refused_if (not (nat_eq (length es) 0)) Enotempty >>= (λ _. Ok (replies.Ok, numbers.gone limits nodes parent last number)))))))
        (sym (last_name-push front name))
        (subst (λ found. Agree (remove t place) (found >>= (λ node. directory node >>= (λ _. refused_if (rules.has_names limits t place) Enotempty >>= (λ _. Ok (replies.Ok, remove t place)))))
        (find_parent nodes place >>= (λ parent. named (entry_number parent.entries name) >>= (λ number. entries_in (get nodes number) >>= (λ es. refused_if (not (nat_eq (length es) 0)) Enotempty >>= (λ _. Ok (replies.Ok, numbers.gone limits nodes parent name number)))))))
        (sym walk-parent) (rmdir_parent (find_parent nodes place) refl))))

  root_unlink : Agree (remove t []) (rules.unlink limits t []) (numbers.unlink_by_numbers limits nodes [])
  unfolding rules.unlink numbers.unlink_by_numbers
  root_unlink = refl

  root_rmdir : Agree (remove t []) (rules.rmdir limits t []) (numbers.rmdir_by_numbers limits nodes [])
  unfolding rules.rmdir numbers.rmdir_by_numbers
  root_rmdir = refl

  pub agree-unlink : (path : Names) → Agree (remove t path) (rules.unlink limits t path) (numbers.unlink_by_numbers limits nodes path)
  agree-unlink path = elim (last_of path) as (λ _. Agree (remove t path) (rules.unlink limits t path) (numbers.unlink_by_numbers limits nodes path)) [
    | inl root ↦ subst (λ p. Agree (remove t p) (rules.unlink limits t p) (numbers.unlink_by_numbers limits nodes p)) (sym root) root_unlink
    | inr (front, name, e) ↦ subst (λ p. Agree (remove t p) (rules.unlink limits t p) (numbers.unlink_by_numbers limits nodes p)) (sym e) (agree-unlink_push front name)
  ]

  pub agree-rmdir : (path : Names) → Agree (remove t path) (rules.rmdir limits t path) (numbers.rmdir_by_numbers limits nodes path)
  agree-rmdir path = elim (last_of path) as (λ _. Agree (remove t path) (rules.rmdir limits t path) (numbers.rmdir_by_numbers limits nodes path)) [
    | inl root ↦ subst (λ p. Agree (remove t p) (rules.rmdir limits t p) (numbers.rmdir_by_numbers limits nodes p)) (sym root) root_rmdir
    | inr (front, name, e) ↦ subst (λ p. Agree (remove t p) (rules.rmdir limits t p) (numbers.rmdir_by_numbers limits nodes p)) (sym e) (agree-rmdir_push front name)
  ]
