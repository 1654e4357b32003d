-- What look-ups find once a node has moved.
use Rattle.std.proofs.Common.{◌≡◌, Bool, true, false, cond, T, List, [], ◌∷◌, ◌++◌, Option, Some, None, is_some, is_none, refl, ap, ◌∙◌, sym, subst}
use Rattle.std.specs.Ordering.{is_eq}
use Rattle.std.specs.FinMap.{get, entries, retain_keys, get-entries, get-from_entries}
use Rattle.std.specs.FinMap.Entries.{find, where_key}
use Rattle.hl_tree.specs.declared.node.Node.{Node}
use Rattle.hl_tree.specs.Names.{path_cmp, below, put_under}
use Rattle.hl_tree.specs.Tree.{Tree, moved, moved_entries}
use Rattle.hl_tree.proofs.Maps.{path_total, entries-retain_keys}
use Rattle.hl_tree.proofs.NamesBelow.{append-below}
use Rattle.hl_tree.proofs.Moved.{Names, same, same_is, below-append, path_cmp-append}

true_is_false : true ≡ false → ⊥
true_is_false e = subst T e tt

-- a test tells paths apart
pub apart : (test : Names → Bool) (x y : Names) → test x ≡ true → test y ≡ false → same x y ≡ false
apart test x y is isnt =
    elim (same x y) as (λ b. same x y ≡ b → b ≡ false) [ true ↦ λ e. absurd (true_is_false (sym is ∙ ap test (same_is x y e) ∙ isnt)) | false ↦ λ e. refl ] refl

apart_back : (test : Names → Bool) (x y : Names) → test x ≡ false → test y ≡ true → same x y ≡ false
apart_back test x y isnt is =
    elim (same x y) as (λ b. same x y ≡ b → b ≡ false) [ true ↦ λ e. absurd (true_is_false (sym is ∙ ap test (sym (same_is x y e)) ∙ isnt)) | false ↦ λ e. refl ] refl

module _ {B : Type 0} (from to q : Names) where
  left : List (Names × Node B) → List (Names × Node B)
  left es = where_key path_cmp (λ path. is_none (below to path)) es

  seen : List (Names × Node B) → Option (Node B)
  seen es = find path_cmp q (moved_entries from to (left es))

  module _ (e : Names × Node B) (es : List (Names × Node B)) where
    gone : (r : Names) → below to e.0 ≡ Some r → seen (e ∷ es) ≡ seen es
    unfolding seen left
    gone r h = ap (λ o. find path_cmp q (moved_entries from to (cond (is_none o) (e ∷ left es) (left es)))) h

    kept : below to e.0 ≡ None → (o : Option Names) → below from e.0 ≡ o → seen (e ∷ es) ≡ cond (same q (put_under to e.0 o)) (Some e.1) (seen es)
    unfolding seen left
    kept h o g = ap (λ o. find path_cmp q (moved_entries from to (cond (is_none o) (e ∷ left es) (left es)))) h
        ∙ ap (λ o. cond (same q (put_under to e.0 o)) (Some e.1) (find path_cmp q (moved_entries from to (left es)))) g

  -- at to and below it
  at_to : (rest : Names) → below to q ≡ Some rest → below to (from ++ rest) ≡ None → (es : List (Names × Node B)) → seen es ≡ find path_cmp (from ++ rest) es
  unfolding seen left
  at_to rest is apart_from [] = refl
  at_to rest is apart_from (e ∷ es) =
      let ih = at_to rest is apart_from es in
      elim (below to e.0) as (λ o. below to e.0 ≡ o → seen (e ∷ es) ≡ find path_cmp (from ++ rest) (e ∷ es)) [
        | Some r ↦ λ h. gone e es r h ∙ ih
            ∙ ap (λ b. cond b (Some e.1) (find path_cmp (from ++ rest) es)) (sym (apart_back (λ x. is_some (below to x)) (from ++ rest) e.0 (ap is_some apart_from) (ap is_some h)))
        | None ↦ λ h. elim (below from e.0) as (λ o. below from e.0 ≡ o → seen (e ∷ es) ≡ find path_cmp (from ++ rest) (e ∷ es)) [
          | Some r ↦ λ g. kept e es h (Some r) g
              ∙ (λ i. cond (is_eq ((ap (λ x. path_cmp x (to ++ r)) (sym (append-below to q rest is)) ∙ path_cmp-append to rest r ∙ sym (path_cmp-append from rest r) ∙ ap (path_cmp (from ++ rest)) (append-below from e.0 r g)) i)) (Some e.1) (ih i))
          | None ↦ λ g. kept e es h None g
              ∙ ap (λ b. cond b (Some e.1) (seen es)) (apart (λ x. is_some (below to x)) q e.0 (ap is_some is) (ap is_some h))
              ∙ ih
              ∙ ap (λ b. cond b (Some e.1) (find path_cmp (from ++ rest) es)) (sym (apart (λ x. is_some (below from x)) (from ++ rest) e.0 (ap is_some (below-append from rest)) (ap is_some g)))
        ] refl
      ] refl

  -- elsewhere
  elsewhere : below to q ≡ None → (es : List (Names × Node B)) → seen es ≡ cond (is_some (below from q)) None (find path_cmp q es)
  unfolding seen left
  elsewhere is [] = elim (is_some (below from q)) as (λ b. find {X = Node B} path_cmp q [] ≡ cond b None (find {X = Node B} path_cmp q [])) [ true ↦ refl | false ↦ refl ]
  elsewhere is (e ∷ es) =
      let ih = elsewhere is es in
      let moving = is_some (below from q) in
      elim (below to e.0) as (λ o. below to e.0 ≡ o → seen (e ∷ es) ≡ cond (is_some (below from q)) None (find path_cmp q (e ∷ es))) [
        | Some r ↦ λ h. gone e es r h ∙ ih
            ∙ ap (λ b. cond (is_some (below from q)) None (cond b (Some e.1) (find path_cmp q es))) (sym (apart_back (λ x. is_some (below to x)) q e.0 (ap is_some is) (ap is_some h)))
        | None ↦ λ h. elim (below from e.0) as (λ o. below from e.0 ≡ o → seen (e ∷ es) ≡ cond (is_some (below from q)) None (find path_cmp q (e ∷ es))) [
          | Some r ↦ λ g. kept e es h (Some r) g
              ∙ ap (λ b. cond b (Some e.1) (seen es)) (apart_back (λ x. is_some (below to x)) q (to ++ r) (ap is_some is) (ap is_some (below-append to r)))
              ∙ ih
              ∙ elim (is_some (below from q)) as (λ b. is_some (below from q) ≡ b → cond b None (find path_cmp q es) ≡ cond b None (find path_cmp q (e ∷ es))) [
                | true ↦ λ m. refl
                | false ↦ λ m. ap (λ b. cond b (Some e.1) (find path_cmp q es)) (sym (apart_back (λ x. is_some (below from x)) q e.0 m (ap is_some g)))
              ] refl
          | None ↦ λ g. kept e es h None g
              ∙ ap (cond (same q e.0) (Some e.1)) ih
              ∙ elim (is_some (below from q)) as (λ b. is_some (below from q) ≡ b → cond (same q e.0) (Some e.1) (cond b None (find path_cmp q es)) ≡ cond b None (find path_cmp q (e ∷ es))) [
                | true ↦ λ m. ap (λ b. cond b (Some e.1) None) (apart (λ x. is_some (below from x)) q e.0 m (ap is_some g))
                | false ↦ λ m. refl
              ] refl
        ] refl
      ] refl

-- what a look-up finds, by what is left of the path below to
abbrev pub moved_get : {B : Type 0} → Tree B → Names → Names → Option Names → Option (Node B)
moved_get t from q (Some rest) = get t (from ++ rest)
moved_get t from q None = cond (is_some (below from q)) None (get t q)

-- Below to stands what stood below from, below from nothing, and all else stays.
pub get-moved : {B : Type 0} (t : Tree B) (from to q : Names) → ((rest : Names) → below to (from ++ rest) ≡ None) → get (moved t from to) q ≡ moved_get t from q (below to q)
unfolding moved seen left
get-moved t from to q apart_from =
    get-from_entries path_total (moved_entries from to (entries (retain_keys t (λ path. is_none (below to path))))) q
    ∙ ap (λ es. find path_cmp q (moved_entries from to es)) (entries-retain_keys t (λ path. is_none (below to path)))
    ∙ elim (below to q) as (λ o. below to q ≡ o → find path_cmp q (moved_entries from to (where_key path_cmp (λ path. is_none (below to path)) (entries t))) ≡ moved_get t from q o) [
      | Some rest ↦ λ h. at_to from to q rest h (apart_from rest) (entries t) ∙ sym (get-entries t (from ++ rest))
      | None ↦ λ h. elsewhere from to q h (entries t) ∙ ap (cond (is_some (below from q)) None) (sym (get-entries t q))
    ] refl
