-- A node moves, with all below it, to a place where nothing is, or a file or an empty directory, which goes.
use Rattle.std.proofs.Common.{◌≡◌, ℕ, Bool, true, false, ◌&&◌, cond, List, [], ◌∷◌, ◌++◌, Option, Some, None, is_some, IsSome, refl, ap, ◌∙◌, sym, subst}
use Rattle.std.proofs.lemmas.List.{append-nil, append_cancel_left}
use Rattle.std.specs.Option.{option_map}
use Rattle.std.specs.FinMap.{get, insert}
use Rattle.hl_tree.specs.Names.{below}
use Rattle.hl_tree.specs.Tree.{Tree, moved}
use Rattle.hl_tree.proofs.NamesBelow.{append-below}
use Rattle.hl_tree.proofs.Moved.{Names, below-append}
use Rattle.hl_tree_laws.proofs.Moved.{moved_get, get-moved}
use Rattle.hl_tree_laws.proofs.MovedTree.{below-more, apart_paths}
use Rattle.hl_dir.specs.declared.entry.Entry.{Entry}
use Rattle.hl_paths.specs.Links.{Links, step, resolve, follow, joined, relinked, same_name, same_number}
use Rattle.hl_paths.specs.Entries.{entry_number, AreWith}
use Rattle.hl_paths.specs.Numbered.{NumberedNode, Directory, Numbering, links, AreLinked, IsTreeOf, without_number, tree_node, found_node}
use Rattle.hl_paths.proofs.Links.{none_some, true_false, name_itself, resolve-last, resolve-append, HaveOnePath, follow-none}
use Rattle.hl_paths.proofs.Relinks.{number_itself, below_itself, relinked-other, resolve-cut, cut-one_path, follow-cut, resolve-join, relinked-true, relinked-false}
use Rattle.hl_paths.proofs.Nodes.{some_of, links-of, links-relinked, put-there, root-relinked, entries-relinked, relinked-was, found_node-relinked, get-without, without-cases, links-without, linked_by, linked-paths, leads_nowhere}

module _ {B : Type 0} (nodes : Numbering B) (t : Tree B) (is : IsTreeOf nodes t)
    (front : Names) (name : List ℕ) (number : ℕ) (old new : List Entry) (at : resolve (links nodes) front ≡ Some number) (there : get nodes number ≡ Some (Directory old))
    (child : ℕ) (named_so : entry_number old name ≡ Some child) (without : AreWith old name None new)
    (to_front : Names) (to_name : List ℕ) (to_number : ℕ) (to_old to_new : List Entry) (to_at : resolve (links nodes) to_front ≡ Some to_number)
    (to_there : get (insert nodes number (Directory new)) to_number ≡ Some (Directory to_old)) (with : AreWith to_old to_name (Some child) to_new)
    (to_was : List Entry) (to_there_before : get nodes to_number ≡ Some (Directory to_was)) (childless : (number : ℕ) → entry_number to_was to_name ≡ Some number → (named : List ℕ) → links nodes number named ≡ None)
    (from_to : below (front ++ name ∷ []) (to_front ++ to_name ∷ []) ≡ None) (to_from : below (to_front ++ to_name ∷ []) (front ++ name ∷ []) ≡ None) where
  abbrev from : Names
  from = front ++ name ∷ []

  abbrev to : Names
  to = to_front ++ to_name ∷ []

  abbrev taken : Numbering B
  taken = insert nodes number (Directory new)

  abbrev grown : Numbering B
  grown = insert taken to_number (Directory to_new)

  -- what stood at the target
  abbrev target : Option ℕ
  target = entry_number to_was to_name

  abbrev after : Numbering B
  after = without_number target grown

  abbrev less : Links
  less = relinked (links nodes) number name None

  abbrev put : Links
  put = relinked less to_number to_name (Some child)

  grown_links : links grown ≡ put
  grown_links = links-relinked taken to_number to_old to_new to_name (Some child) to_there with
      ∙ ap (λ l. relinked l to_number to_name (Some child)) (links-relinked nodes number old new name None there without)

  paths : HaveOnePath (links nodes)
  paths = linked-paths nodes is.linked

  led : links nodes number name ≡ Some child
  led = links-of nodes number (Directory old) name there ∙ named_so

  -- below from
  was_at : (rest : Names) → resolve (links nodes) (from ++ rest) ≡ follow (links nodes) (Some child) rest
  was_at rest = resolve-append (links nodes) from rest ∙ ap (λ o. follow (links nodes) o rest) (resolve-last (links nodes) front name ∙ ap (λ o. step (links nodes) o name) at ∙ led)

  still_below : (rest : Names) → follow less (Some child) rest ≡ resolve (links nodes) (from ++ rest)
  still_below rest = follow-cut (links nodes) paths front name number at child led rest ∙ sym (was_at rest)

  cut : (path : Names) → resolve less path ≡ cond (is_some (below from path)) None (resolve (links nodes) path)
  cut path = resolve-cut (links nodes) paths front name number at path

  not_at_to_front : below from to_front ≡ None
  not_at_to_front = elim (below from to_front) as (λ o. below from to_front ≡ o → o ≡ None) [
    | None ↦ λ b. refl
    | Some rest ↦ λ b. absurd (none_some (sym from_to ∙ below-more from to_front rest (to_name ∷ []) b))
  ] refl

  to_at_still : resolve less to_front ≡ Some to_number
  to_at_still = cut to_front ∙ ap (λ o. cond (is_some o) None (resolve (links nodes) to_front)) not_at_to_front ∙ to_at

  less_paths : HaveOnePath less
  less_paths = cut-one_path (links nodes) paths front name number at

  -- the directory that the node goes to isn't below it
  not_into : (rest : Names) → follow less (Some child) rest ≡ Some to_number → ⊥
  not_into rest e = none_some (sym not_at_to_front ∙ ap (below from) (paths to_front (from ++ rest) to_number to_at (sym (still_below rest) ∙ e)) ∙ below-append from rest)

  abbrev found_at : Option Names → Names → Option ℕ
  found_at (Some rest) q = resolve (links nodes) (from ++ rest)
  found_at None q = cond (is_some (below from q)) None (resolve (links nodes) q)

  by_rest : (o : Option Names) (q : Names) → joined less child o (resolve less q) ≡ found_at o q
  by_rest (Some rest) q = still_below rest
  by_rest None q = cut q

  found : (q : Names) → resolve put q ≡ found_at (below to q) q
  found q = resolve-join less less_paths to_front to_name to_number to_at_still child not_into q ∙ by_rest (below to q) q

  found_if : (q : Names) (o : Option Names) → below to q ≡ o → resolve put q ≡ found_at o q
  found_if q o b = found q ∙ ap (λ o. found_at o q) b

  to_led : links nodes to_number to_name ≡ target
  to_led = links-of nodes to_number (Directory to_was) to_name to_there_before

  to_found : resolve (links nodes) to ≡ target
  to_found = resolve-last (links nodes) to_front to_name ∙ ap (λ o. step (links nodes) o to_name) to_at ∙ to_led

  -- at to or below it was nothing but the target
  was_target : (q rest : Names) → below to q ≡ Some rest → (n : ℕ) → resolve (links nodes) q ≡ Some n → target ≡ Some n
  was_target q rest b n e = by_rest_left rest b
    where
      leads : (o : Option ℕ) → target ≡ o → (x : List ℕ) (more : Names) → follow (links nodes) o (x ∷ more) ≡ None
      leads None f x more = follow-none (links nodes) more
      leads (Some k) f x more = leads_nowhere nodes k (childless k f) more x

      by_rest_left : (rest : Names) → below to q ≡ Some rest → target ≡ Some n
      by_rest_left [] b = sym to_found ∙ ap (resolve (links nodes)) (sym (append-nil to) ∙ append-below to q [] b) ∙ e
      by_rest_left (x ∷ more) b = absurd (none_some (sym (
          ap (resolve (links nodes)) (sym (append-below to q (x ∷ more) b)) ∙ resolve-append (links nodes) to (x ∷ more) ∙ ap (λ o. follow (links nodes) o (x ∷ more)) to_found ∙ leads target refl x more) ∙ e))

  -- the moving node isn't the target
  not_target : target ≡ Some child → ⊥
  not_target e = none_some (sym from_to ∙ ap (below from) (paths to from child (to_found ∙ e) (ap (resolve (links nodes)) (sym (append-nil from)) ∙ was_at [])) ∙ below_itself from)

  -- the target has no links, then and now
  target_childless : (number : ℕ) → target ≡ Some number → (named : List ℕ) → links grown number named ≡ None
  target_childless k e named = ap (λ l. l k named) grown_links
      ∙ relinked-other less to_number to_name (Some child) k named (λ f. none_some (sym (childless k e to_name) ∙ ap (λ n. links nodes n to_name) f ∙ to_led ∙ e))
      ∙ no_less (same_number k number && same_name named name) refl
    where
      no_less : (b : Bool) → (same_number k number && same_name named name) ≡ b → less k named ≡ None
      no_less true f = relinked-true (links nodes) number name None k named f
      no_less false f = relinked-false (links nodes) number name None k named f ∙ childless k e named

  same_links : links after ≡ put
  same_links = links-without grown target target_childless ∙ grown_links

  kept : (b : Bool) (o : Option ℕ) (n : ℕ) → cond b None o ≡ Some n → (b ≡ false) × (o ≡ Some n)
  kept true o n e = absurd (none_some e)
  kept false o n e = (refl, e)

  -- one that is found below to and one that is found elsewhere differ
  no_both : (q rest : Names) (n : ℕ) → resolve (links nodes) (from ++ rest) ≡ Some n → cond (is_some (below from q)) None (resolve (links nodes) q) ≡ Some n → ⊥
  no_both q rest n e f =
      let stays = kept (is_some (below from q)) (resolve (links nodes) q) n f in
      true_false (sym (ap is_some (ap (below from) (sym (paths (from ++ rest) q n e stays.1)) ∙ below-append from rest)) ∙ stays.0)

  put_paths : HaveOnePath put
  put_paths q r n e f =
      elim (below to q) as (λ o. below to q ≡ o → q ≡ r) [
        | Some rest ↦ λ b. elim (below to r) as (λ o. below to r ≡ o → q ≡ r) [
          | Some more ↦ λ c.
              let same = append_cancel_left from rest more (paths (from ++ rest) (from ++ more) n (sym (found_if q (Some rest) b) ∙ e) (sym (found_if r (Some more) c) ∙ f)) in
              sym (append-below to q rest b) ∙ ap (λ x. to ++ x) same ∙ append-below to r more c
          | None ↦ λ c. absurd (no_both r rest n (sym (found_if q (Some rest) b) ∙ e) (sym (found_if r None c) ∙ f))
        ] refl
        | None ↦ λ b. elim (below to r) as (λ o. below to r ≡ o → q ≡ r) [
          | Some more ↦ λ c. absurd (no_both q more n (sym (found_if r (Some more) c) ∙ f) (sym (found_if q None b) ∙ e))
          | None ↦ λ c. paths q r n (kept (is_some (below from q)) _ n (sym (found_if q None b) ∙ e)).1 (kept (is_some (below from r)) _ n (sym (found_if r None c) ∙ f)).1
        ] refl
      ] refl

  -- each number that was found is found still
  goes_to : (q : Names) (n : ℕ) → resolve (links nodes) q ≡ Some n → (target ≡ Some n → ⊥) → (path : Names) × (resolve put path ≡ Some n)
  goes_to q n e differ = elim (below from q) as (λ o. below from q ≡ o → (path : Names) × (resolve put path ≡ Some n)) [
    | Some rest ↦ λ b. (to ++ rest, found_if (to ++ rest) (Some rest) (below-append to rest) ∙ ap (resolve (links nodes)) (append-below from q rest b) ∙ e)
    | None ↦ λ b. elim (below to q) as (λ o. below to q ≡ o → (path : Names) × (resolve put path ≡ Some n)) [
      | Some rest ↦ λ c. absurd (differ (was_target q rest c n e))
      | None ↦ λ c. (q, found_if q None c ∙ ap (λ o. cond (is_some o) None (resolve (links nodes) q)) b ∙ e)
    ] refl
  ] refl

  linked : AreLinked after
  linked = linked_by after
      (let root = root-relinked taken to_number to_old to_new to_there (root-relinked nodes number old new there is.linked.root) in
      (root.0, get-without grown target 1 (λ e. is.linked.below_root to_number to_name 1 (to_led ∙ e) refl) ∙ root.1))
      (λ other es e. entries-relinked taken to_number to_old to_new to_there with.entries (entries-relinked nodes number old new there without.entries is.linked.entries) other es (without-cases grown target other (Directory es) e).1)
      (λ other named to e. used other named to (sym (ap (λ l. l other named) same_links) ∙ e))
      (subst HaveOnePath (sym same_links) put_paths)
      (λ other there. subst (λ l. (path : Names) × (resolve l path ≡ Some other)) (sym same_links) (reached other (some_of (get after other) there).0 (some_of (get after other) there).1))
    where
      still_used : (other : ℕ) → (target ≡ Some other → ⊥) → IsSome (get nodes other) → IsSome (get after other)
      still_used other differ there = ap is_some (get-without grown target other differ) ∙ put-there taken to_number (Directory to_new) other (put-there nodes number (Directory new) other there)

      led_less : (other : ℕ) (named : List ℕ) (to : ℕ) → less other named ≡ Some to → links nodes other named ≡ Some to
      led_less other named to e = elim (same_number other number && same_name named name) as (λ b. (same_number other number && same_name named name) ≡ b → links nodes other named ≡ Some to) [
        | true ↦ λ f. absurd (none_some (sym (relinked-true (links nodes) number name None other named f) ∙ e))
        | false ↦ λ f. sym (relinked-false (links nodes) number name None other named f) ∙ e
      ] refl

      used : (other : ℕ) (named : List ℕ) (to : ℕ) → put other named ≡ Some to → IsSome (get after to)
      used other named to e = elim (same_number other to_number && same_name named to_name) as (λ b. (same_number other to_number && same_name named to_name) ≡ b → IsSome (get after to)) [
        | true ↦ λ f.
            let same : Some child ≡ Some to = sym (relinked-true less to_number to_name (Some child) other named f) ∙ e in
            let one : child ≡ to = cc in
            still_used to (λ g. not_target (g ∙ ap Some (sym one))) (is.linked.used number name to (led ∙ ap Some one))
        | false ↦ λ f.
            let was = led_less other named to (sym (relinked-false less to_number to_name (Some child) other named f) ∙ e) in
            still_used to (λ g.
            let same = is.linked.once other to_number named to_name to was (to_led ∙ g) in
            true_false ((λ i. sym (number_itself to_number) i && sym (name_itself to_name) i) ∙ (λ i. same_number (sym same.0 i) to_number && same_name (sym same.1 i) to_name) ∙ f)) (is.linked.used other named to was)
      ] refl

      reached : (other : ℕ) (node : NumberedNode B) → get after other ≡ Some node → (path : Names) × (resolve put path ≡ Some other)
      reached other node e =
          let kept = without-cases grown target other node e in
          let between = some_of (get taken other) (relinked-was taken to_number to_old to_new to_there other node kept.1) in
          let was = is.linked.reached other (relinked-was nodes number old new there other between.0 between.1) in
          goes_to was.0 other was.1 kept.0

  same_node : (o : Option ℕ) → ((k : ℕ) → o ≡ Some k → target ≡ Some k → ⊥) → found_node after o ≡ found_node nodes o
  same_node None differ = refl
  same_node (Some other) differ = ap (option_map tree_node) (get-without grown target other (differ other refl))
      ∙ found_node-relinked taken to_number to_old to_new to_there (Some other) ∙ found_node-relinked nodes number old new there (Some other)

  -- the target is found no more
  found_other : (q : Names) (k : ℕ) → resolve put q ≡ Some k → target ≡ Some k → ⊥
  found_other q k e f = elim (below to q) as (λ o. below to q ≡ o → ⊥) [
    | Some rest ↦ λ b.
        let same = paths to (from ++ rest) k (to_found ∙ f) (sym (found_if q (Some rest) b) ∙ e) in
        none_some (sym from_to ∙ ap (below from) same ∙ below-append from rest)
    | None ↦ λ b.
        let same = paths q to k (kept (is_some (below from q)) _ k (sym (found_if q None b) ∙ e)).1 (to_found ∙ f) in
        none_some (sym b ∙ ap (below to) same ∙ below_itself to)
  ] refl

  cond_node : (b : Bool) (o : Option ℕ) → cond b None (found_node nodes o) ≡ found_node nodes (cond b None o)
  cond_node true o = refl
  cond_node false o = refl

  moved_node : (o : Option Names) (q : Names) → moved_get t from q o ≡ found_node nodes (found_at o q)
  moved_node (Some rest) q = is.same (from ++ rest)
  moved_node None q = ap (cond (is_some (below from q)) None) (is.same q) ∙ cond_node (is_some (below from q)) (resolve (links nodes) q)

  pub IsTreeOf-moved : IsTreeOf after (moved t from to)
  IsTreeOf-moved = record {
    linked = linked;
    same = λ q.
        get-moved t from to q (apart_paths from to from_to to_from)
        ∙ moved_node (below to q) q
        ∙ sym (ap (found_node nodes) (found q))
        ∙ sym (same_node (resolve put q) (λ k e f. found_other q k e f))
        ∙ sym (ap (λ l. found_node after (resolve l q)) same_links);
  }
