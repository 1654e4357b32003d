-- A file or an empty directory goes, with its name.
use Rattle.std.proofs.Common.{◌≡◌, ℕ, Bool, true, false, ◌&&◌, cond, List, [], ◌∷◌, ◌++◌, Option, Some, None, is_some, IsSome, refl, ap, ◌∙◌, sym, subst}
use Rattle.std.proofs.lemmas.List.{append-nil}
use Rattle.std.specs.Option.{option_map}
use Rattle.std.specs.FinMap.{get, insert, remove, get-remove}
use Rattle.hl_tree.specs.Names.{below}
use Rattle.hl_tree.specs.Tree.{Tree}
use Rattle.hl_tree.proofs.Maps.{path_total}
use Rattle.hl_tree.proofs.NamesBelow.{append-below}
use Rattle.hl_tree.proofs.Moved.{Names, same}
use Rattle.hl_dir.specs.declared.entry.Entry.{Entry}
use Rattle.hl_paths.specs.Links.{Links, step, resolve, follow, relinked, same_name, same_number}
use Rattle.hl_paths.specs.Entries.{entry_number, AreWith}
use Rattle.hl_paths.specs.Numbered.{NumberedNode, Directory, Numbering, links, AreLinked, IsTreeOf, tree_node, found_node}
use Rattle.hl_paths.proofs.Links.{none_some, true_false, name_itself, resolve-last, resolve-append, HaveOnePath}
use Rattle.hl_paths.proofs.Relinks.{number_is, number_itself, below_itself, resolve-cut, cut-one_path, relinked-other, relinked-true, relinked-false}
use Rattle.hl_paths.proofs.Nodes.{path_itself, path_other, some_of, links-of, links-remove, links-relinked, get-gone_other, gone-cases, put-there, root-relinked, entries-relinked, relinked-was, found_node-relinked, linked_by, linked-paths, leads_nowhere}

module _ {B : Type 0} (nodes : Numbering B) (t : Tree B) (is : IsTreeOf nodes t)
    (front : Names) (name : List ℕ) (number : ℕ) (old new : List Entry) (at : resolve (links nodes) front ≡ Some number) (there : get nodes number ≡ Some (Directory old))
    (child : ℕ) (named_so : entry_number old name ≡ Some child) (none_below : (named : List ℕ) → links nodes child named ≡ None) (with : AreWith old name None new) where
  abbrev place : Names
  place = front ++ name ∷ []

  abbrev shrunk : Numbering B
  shrunk = insert nodes number (Directory new)

  abbrev after : Numbering B
  after = remove shrunk child

  abbrev less : Links
  less = relinked (links nodes) number name None

  led : links nodes number name ≡ Some child
  led = links-of nodes number (Directory old) name there ∙ named_so

  not_parent : child ≡ number → ⊥
  not_parent e = none_some (sym (none_below name) ∙ ap (λ n. links nodes n name) e ∙ led)

  at_child : (other : ℕ) (named : List ℕ) (b : Bool) → same_number other child ≡ b → cond b None (less other named) ≡ less other named
  at_child other named true e = sym (ap (λ n. less n named) (number_is other child e) ∙ relinked-other (links nodes) number name None child named not_parent ∙ none_below named)
  at_child other named false e = refl

  same_links : links after ≡ less
  same_links = λ i other named. (
      links-remove shrunk child other named
      ∙ ap (λ l. cond (same_number other child) None (l other named)) (links-relinked nodes number old new name None there with)
      ∙ at_child other named (same_number other child) refl) i

  paths : HaveOnePath (links nodes)
  paths = linked-paths nodes is.linked

  found : (path : Names) → resolve less path ≡ cond (is_some (below place path)) None (resolve (links nodes) path)
  found path = resolve-cut (links nodes) paths front name number at path

  was_at : (rest : Names) → resolve (links nodes) (place ++ rest) ≡ follow (links nodes) (Some child) rest
  was_at rest = resolve-append (links nodes) place rest ∙ ap (λ o. follow (links nodes) o rest) (resolve-last (links nodes) front name ∙ ap (λ o. step (links nodes) o name) at ∙ led)

  was_below : (path rest : Names) → below place path ≡ Some rest → resolve (links nodes) path ≡ follow (links nodes) (Some child) rest
  was_below path rest b = ap (resolve (links nodes)) (sym (append-below place path rest b)) ∙ was_at rest

  child_at : (path : Names) → resolve (links nodes) path ≡ Some child → path ≡ place
  child_at path e = paths path place child e (ap (resolve (links nodes)) (sym (append-nil place)) ∙ was_at [])

  -- any other number is found where it was
  elsewhere : (path : Names) (n : ℕ) → resolve (links nodes) path ≡ Some n → (n ≡ child → ⊥) → resolve less path ≡ Some n
  elsewhere path n e differ = elim (below place path) as (λ o. below place path ≡ o → resolve less path ≡ Some n) [
    | Some rest ↦ λ b. absurd (not_below rest (sym (was_below path rest b) ∙ e))
    | None ↦ λ b. found path ∙ ap (λ o. cond (is_some o) None (resolve (links nodes) path)) b ∙ e
  ] refl
    where
      not_below : (rest : Names) → follow (links nodes) (Some child) rest ≡ Some n → ⊥
      not_below [] f = differ (let same : child ≡ n = cc in sym same)
      not_below (x ∷ rest) f = none_some (sym (leads_nowhere nodes child none_below rest x) ∙ f)

  linked : AreLinked after
  linked = linked_by after
      (let root = root-relinked nodes number old new there is.linked.root in (root.0, get-gone_other shrunk child 1 (λ e. is.linked.below_root number name child led (sym e)) ∙ root.1))
      (λ other es e. entries-relinked nodes number old new there with.entries is.linked.entries other es (gone-cases shrunk child other (Directory es) e).1)
      (λ other named to e. used other named to (sym (ap (λ l. l other named) same_links) ∙ e))
      (subst HaveOnePath (sym same_links) (cut-one_path (links nodes) paths front name number at))
      (λ other there. subst (λ l. (path : Names) × (resolve l path ≡ Some other)) (sym same_links) (reached other (some_of (get after other) there).0 (some_of (get after other) there).1))
    where
      used : (other : ℕ) (named : List ℕ) (to : ℕ) → less other named ≡ Some to → IsSome (get after to)
      used other named to e = elim (same_number other number && same_name named name) as (λ b. (same_number other number && same_name named name) ≡ b → IsSome (get after to)) [
        | true ↦ λ f. absurd (none_some (sym (relinked-true (links nodes) number name None other named f) ∙ e))
        | false ↦ λ f.
            let was : links nodes other named ≡ Some to = sym (relinked-false (links nodes) number name None other named f) ∙ e in
            let differ : to ≡ child → ⊥ = λ g.
            let same = is.linked.once other number named name child (was ∙ ap Some g) led in
            true_false ((λ i. sym (number_itself number) i && sym (name_itself name) i) ∙ (λ i. same_number (sym same.0 i) number && same_name (sym same.1 i) name) ∙ f) in
            ap is_some (get-gone_other shrunk child to differ) ∙ put-there nodes number (Directory new) to (is.linked.used other named to was)
      ] refl

      reached : (other : ℕ) (node : NumberedNode B) → get after other ≡ Some node → (path : Names) × (resolve less path ≡ Some other)
      reached other node e =
          let kept = gone-cases shrunk child other node e in
          let was = is.linked.reached other (relinked-was nodes number old new there other node kept.1) in
          (was.0, elsewhere was.0 other was.1 kept.0)

  same_node : (o : Option ℕ) → (o ≡ Some child → ⊥) → found_node after o ≡ found_node nodes o
  same_node None differ = refl
  same_node (Some other) differ = ap (option_map tree_node) (get-gone_other shrunk child other (λ e. differ (ap Some e))) ∙ found_node-relinked nodes number old new there (Some other)

  pub IsTreeOf-removed : IsTreeOf after (remove t place)
  IsTreeOf-removed = record {
    linked = linked;
    same = λ q.
        get-remove path_total t place q
        ∙ elim (below place q) as (λ o. below place q ≡ o → cond (same q place) None (get t q) ≡ found_node after (cond (is_some o) None (resolve (links nodes) q))) [
          | Some rest ↦ λ b. gone q rest b
          | None ↦ λ b.
              let apart : q ≡ place → ⊥ = λ e. none_some (sym b ∙ ap (below place) e ∙ below_itself place) in
              ap (λ c. cond c None (get t q)) (path_other q place apart) ∙ is.same q ∙ sym (same_node (resolve (links nodes) q) (λ e. apart (child_at q e)))
        ] refl
        ∙ sym (ap (found_node after) (found q))
        ∙ sym (ap (λ l. found_node after (resolve l q)) same_links);
  }
    where
      gone : (q rest : Names) → below place q ≡ Some rest → cond (same q place) None (get t q) ≡ None
      gone q [] b = ap (λ c. cond c None (get t q)) (ap (same q) (sym (append-nil place) ∙ append-below place q [] b) ∙ path_itself q)
      gone q (x ∷ rest) b =
          ap (λ c. cond c None (get t q)) (path_other q place (λ e. let no : Some (x ∷ rest) ≡ Some [] = sym b ∙ ap (below place) e ∙ below_itself place in cc))
          ∙ is.same q ∙ ap (found_node nodes) (was_below q (x ∷ rest) b ∙ leads_nowhere nodes child none_below rest x)
