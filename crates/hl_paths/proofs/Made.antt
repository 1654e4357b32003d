-- A node comes under a number that is free and a name that its directory doesn't have.
use Rattle.std.proofs.Common.{◌≡◌, ℕ, Bool, true, false, ◌&&◌, cond, List, [], ◌∷◌, ◌++◌, Option, Some, None, IsSome, refl, ap, ◌∙◌, sym, subst}
use Rattle.std.proofs.lemmas.List.{append-nil}
use Rattle.std.specs.Option.{option_map}
use Rattle.std.specs.FinMap.{get, insert, get-insert}
use Rattle.hl_tree.specs.Names.{below}
use Rattle.hl_tree.specs.Tree.{Tree}
use Rattle.hl_tree.proofs.Maps.{path_total}
use Rattle.hl_tree.proofs.NamesBelow.{append-below}
use Rattle.hl_tree.proofs.Moved.{Names, same}
use Rattle.hl_dir.specs.declared.entry.Entry.{Entry}
use Rattle.hl_dir.specs.Dirs.{AreEntries}
use Rattle.hl_paths.specs.Links.{Links, step, resolve, follow, joined, relinked, same_name, same_number}
use Rattle.hl_paths.specs.Entries.{entry_number, AreWith}
use Rattle.hl_paths.specs.Numbered.{NumberedNode, Directory, Numbering, number_in, links, AreLinked, IsTreeOf, tree_node, found_node}
use Rattle.hl_paths.proofs.Links.{none_some, resolve-last, resolve-append, follow-none, HaveOnePath}
use Rattle.hl_paths.proofs.Relinks.{number_is, below_itself, resolve-join, relinked-other, relinked-true, relinked-false}
use Rattle.hl_paths.proofs.Nodes.{path_itself, path_other, is_there, some_of, links-of, links-none, links-insert, links-relinked, get-put_here, get-put_other, put-cases, put-there, root-relinked, found_node-relinked, linked_by, linked-paths, found-used, leads_nowhere}

module _ {B : Type 0} (nodes : Numbering B) (t : Tree B) (is : IsTreeOf nodes t)
    (front : Names) (name : List ℕ) (number : ℕ) (old new : List Entry) (at : resolve (links nodes) front ≡ Some number) (there : get nodes number ≡ Some (Directory old)) (free_name : entry_number old name ≡ None)
    (child : ℕ) (node : NumberedNode B) (free : get nodes child ≡ None) (with : AreWith old name (Some child) new)
    (no_links : (named : List ℕ) → number_in (Some node) named ≡ None) (no_entries : (es : List Entry) → node ≡ Directory es → AreEntries es) where
  abbrev place : Names
  place = front ++ name ∷ []

  abbrev grown : Numbering B
  grown = insert nodes number (Directory new)

  abbrev after : Numbering B
  after = insert grown child node

  abbrev more : Links
  more = relinked (links nodes) number name (Some child)

  not_parent : child ≡ number → ⊥
  not_parent e = none_some (sym free ∙ ap (get nodes) e ∙ there)

  none_below : (named : List ℕ) → links nodes child named ≡ None
  none_below named = links-none nodes child named free

  at_child : (other : ℕ) (named : List ℕ) (b : Bool) → same_number other child ≡ b → cond b (number_in (Some node) named) (more other named) ≡ more other named
  at_child other named true e =
      let same : other ≡ child = number_is other child e in
      no_links named ∙ sym (ap (λ n. more n named) same ∙ relinked-other (links nodes) number name (Some child) child named not_parent ∙ none_below named)
  at_child other named false e = refl

  same_links : links after ≡ more
  same_links = λ i other named. (
      links-insert grown child node other named
      ∙ ap (λ l. cond (same_number other child) (number_in (Some node) named) (l other named)) (links-relinked nodes number old new name (Some child) there with)
      ∙ at_child other named (same_number other child) refl) i

  leads : (rest : Names) (n : ℕ) → follow (links nodes) (Some child) rest ≡ Some n → (rest ≡ []) × (child ≡ n)
  leads [] n e = (refl, cc)
  leads (x ∷ rest) n e = absurd (none_some (sym (leads_nowhere nodes child none_below rest x) ∙ e))

  paths : HaveOnePath (links nodes)
  paths = linked-paths nodes is.linked

  found : (path : Names) → resolve more path ≡ joined (links nodes) child (below place path) (resolve (links nodes) path)
  found path = resolve-join (links nodes) paths front name number at child (λ rest e. not_parent (leads rest number e).1) path

  -- nothing was at the place or below it
  was_none : (rest : Names) → resolve (links nodes) (place ++ rest) ≡ None
  was_none rest = resolve-append (links nodes) place rest
      ∙ ap (λ o. follow (links nodes) o rest) (resolve-last (links nodes) front name ∙ ap (λ o. step (links nodes) o name) at ∙ links-of nodes number (Directory old) name there ∙ free_name)
      ∙ follow-none (links nodes) rest

  nothing_there : (path rest : Names) → below place path ≡ Some rest → resolve (links nodes) path ≡ None
  nothing_there path rest b = ap (resolve (links nodes)) (sym (append-below place path rest b)) ∙ was_none rest

  -- what is found is the new node, or was found before
  either : (P : Type 0) (path : Names) (n : ℕ) → resolve more path ≡ Some n → (path ≡ place → child ≡ n → P) → (below place path ≡ None → resolve (links nodes) path ≡ Some n → P) → P
  either P path n e here before = elim (below place path) as (λ o. below place path ≡ o → P) [
    | Some rest ↦ λ b.
        let led = leads rest n (sym (found path ∙ ap (λ o. joined (links nodes) child o (resolve (links nodes) path)) b) ∙ e) in
        here (sym (append-below place path rest b) ∙ ap (λ r. place ++ r) led.0 ∙ append-nil place) led.1
    | None ↦ λ b. before b (sym (found path ∙ ap (λ o. joined (links nodes) child o (resolve (links nodes) path)) b) ∙ e)
  ] refl

  -- a number that was found isn't the new one
  found_before : (path : Names) → resolve (links nodes) path ≡ Some child → ⊥
  found_before path e = none_some (sym free ∙ (some_of _ (found-used nodes is.linked path child e)).1)

  more_paths : HaveOnePath more
  more_paths path other n e f = either (path ≡ other) path n e
      (λ p c. either (path ≡ other) other n f (λ q d. p ∙ sym q) (λ b g. absurd (found_before other (g ∙ ap Some (sym c)))))
      (λ b g. either (path ≡ other) other n f (λ q d. absurd (found_before path (g ∙ ap Some (sym d)))) (λ c h. paths path other n g h))

  at_place : resolve more place ≡ Some child
  at_place = found place ∙ ap (λ o. joined (links nodes) child o (resolve (links nodes) place)) (below_itself place)

  elsewhere : (path : Names) (n : ℕ) → resolve (links nodes) path ≡ Some n → resolve more path ≡ Some n
  elsewhere path n e = elim (below place path) as (λ o. below place path ≡ o → resolve more path ≡ Some n) [
    | Some rest ↦ λ b. absurd (none_some (sym (nothing_there path rest b) ∙ e))
    | None ↦ λ b. found path ∙ ap (λ o. joined (links nodes) child o (resolve (links nodes) path)) b ∙ e
  ] refl

  kept_there : (other : ℕ) → IsSome (get nodes other) → IsSome (get after other)
  kept_there other there = put-there grown child node other (put-there nodes number (Directory new) other there)

  after_cases : (P : Type 0) (other : ℕ) (found : NumberedNode B) → get after other ≡ Some found → (other ≡ child → node ≡ found → P) → (other ≡ number → Directory new ≡ found → P) → (get nodes other ≡ Some found → P) → P
  after_cases P other found e new_node parent before = put-cases grown child node P other found e new_node (λ differ f. put-cases nodes number (Directory new) P other found f parent (λ differ g. before g))

  not_one : 1 ≡ child → ⊥
  not_one e = none_some (sym free ∙ ap (get nodes) (sym e) ∙ is.linked.root.1)

  root : (es : List Entry) × (get after 1 ≡ Some (Directory es))
  root = let grew = root-relinked nodes number old new there is.linked.root in (grew.0, get-put_other grown child node 1 not_one ∙ grew.1)

  linked : AreLinked after
  linked = linked_by after root
      (λ other es f. after_cases (AreEntries es) other (Directory es) f (λ e g. no_entries es g) (λ e g. let same : new ≡ es = cc in subst AreEntries same with.entries) (λ g. is.linked.entries other es g))
      (λ other named to led. used other named to (sym (ap (λ l. l other named) same_links) ∙ led))
      (subst HaveOnePath (sym same_links) more_paths)
      (λ other there. subst (λ l. (path : Names) × (resolve l path ≡ Some other)) (sym same_links) (reached other (some_of (get after other) there).0 (some_of (get after other) there).1))
    where
      used : (other : ℕ) (named : List ℕ) (to : ℕ) → more other named ≡ Some to → IsSome (get after to)
      used other named to led = elim (same_number other number && same_name named name) as (λ b. (same_number other number && same_name named name) ≡ b → IsSome (get after to)) [
        | true ↦ λ e.
            let same : Some child ≡ Some to = sym (relinked-true (links nodes) number name (Some child) other named e) ∙ led in
            let one : child ≡ to = cc in
            is_there node (ap (get after) (sym one) ∙ get-put_here grown child node)
        | false ↦ λ e. kept_there to (is.linked.used other named to (sym (relinked-false (links nodes) number name (Some child) other named e) ∙ led))
      ] refl

      reached : (other : ℕ) (found : NumberedNode B) → get after other ≡ Some found → (path : Names) × (resolve more path ≡ Some other)
      reached other found e = after_cases ((path : Names) × (resolve more path ≡ Some other)) other found e
          (λ f g. (place, at_place ∙ ap Some (sym f)))
          (λ f g. (front, elsewhere front other (at ∙ ap Some (sym f))))
          (λ g. let was = is.linked.reached other (is_there found g) in (was.0, elsewhere was.0 other was.1))

  same_node : (o : Option ℕ) → (o ≡ Some child → ⊥) → found_node after o ≡ found_node nodes o
  same_node None differ = refl
  same_node (Some other) differ = ap (option_map tree_node) (get-put_other grown child node other (λ e. differ (ap Some e)))
      ∙ found_node-relinked nodes number old new there (Some other)

  pub IsTreeOf-made : IsTreeOf after (insert t place (tree_node node))
  IsTreeOf-made = record {
    linked = linked;
    same = λ q.
        get-insert path_total t place (tree_node node) q
        ∙ elim (below place q) as (λ o. below place q ≡ o → cond (same q place) (Some (tree_node node)) (get t q) ≡ found_node after (resolve more q)) [
          | Some rest ↦ λ b. at_or_below q rest b
          | None ↦ λ b.
              ap (λ c. cond c (Some (tree_node node)) (get t q)) (path_other q place (λ e. none_some (sym b ∙ ap (below place) e ∙ below_itself place)))
              ∙ is.same q
              ∙ sym (ap (found_node after) (found q ∙ ap (λ o. joined (links nodes) child o (resolve (links nodes) q)) b) ∙ same_node (resolve (links nodes) q) (found_before q))
        ] refl
        ∙ sym (ap (λ l. found_node after (resolve l q)) same_links);
  }
    where
      led_to : (q rest : Names) → below place q ≡ Some rest → resolve more q ≡ follow (links nodes) (Some child) rest
      led_to q rest b = found q ∙ ap (λ o. joined (links nodes) child o (resolve (links nodes) q)) b

      at_or_below : (q rest : Names) → below place q ≡ Some rest → cond (same q place) (Some (tree_node node)) (get t q) ≡ found_node after (resolve more q)
      at_or_below q [] b =
          let here : q ≡ place = sym (append-below place q [] b) ∙ append-nil place in
          ap (λ c. cond c (Some (tree_node node)) (get t q)) (ap (same q) (sym here) ∙ path_itself q)
          ∙ sym (ap (found_node after) (led_to q [] b) ∙ ap (option_map tree_node) (get-put_here grown child node))
      at_or_below q (x ∷ rest) b =
          ap (λ c. cond c (Some (tree_node node)) (get t q)) (path_other q place (λ e. let no : Some (x ∷ rest) ≡ Some [] = sym b ∙ ap (below place) e ∙ below_itself place in cc))
          ∙ is.same q ∙ ap (found_node nodes) (nothing_there q (x ∷ rest) b)
          ∙ sym (ap (found_node after) (led_to q (x ∷ rest) b ∙ leads_nowhere nodes child none_below rest x))
