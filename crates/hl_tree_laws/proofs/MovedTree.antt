-- A tree in which a node moves is a tree, and what a Rename that is not refused has found.
use Rattle.std.proofs.Common.{arith, ◌≡◌, ◌≢◌, ℕ, true, false, cond, T, List, [], ◌∷◌, ◌++◌, Option, Some, None, is_some, Result, Ok, refl, ap, ◌∙◌, sym, subst}
use Rattle.std.proofs.lemmas.List.{append_assoc, append-nil}
use Rattle.std.specs.Ordering.{eq_by_cmp, is_eq}
use Rattle.std.specs.FinMap.{get}
use Rattle.std.specs.Cmp.{tied_itself}
use Rattle.std.specs.Cmp.Lexicographic.{nat_list_cmp_total}
use Rattle.hl_tree.specs.declared.node.Node.{Node}
use Rattle.hl_tree.specs.declared.node.Node.TheVariants.{Dir}
use Rattle.hl_tree.specs.declared.call.Refusal.{Refusal}
use Rattle.hl_tree.specs.Names.{below}
use Rattle.hl_tree.specs.Tree.{Tree, IsTree, moved, way_on, in_directory, walk_to_parent}
use Rattle.hl_tree.proofs.NamesBelow.{name_cmp, name_exact, append-below, equal}
use Rattle.hl_tree.proofs.Moved.{Names, below-append}
use Rattle.hl_tree_laws.proofs.Moved.{get-moved, moved_get}

none_some : {A : Type 0} (n : A) → None ≡ Some n → ⊥
none_some n e = subst T (ap is_some (sym e)) tt

below_root : (p : Names) → p ≢ [] → below p [] ≡ None
below_root [] h = absurd (h refl)
below_root (x ∷ p) h = refl

pub below-more : (p q r s : Names) → below p q ≡ Some r → below p (q ++ s) ≡ Some (r ++ s)
below-more p q r s is = ap (below p) (ap (λ x. x ++ s) (sym (append-below p q r is)) ∙ append_assoc p r s) ∙ below-append p (r ++ s)

below-last : (p q r : Names) (n : List ℕ) → below p (q ++ n ∷ []) ≡ Some r → below p q ≡ None → p ≡ q ++ n ∷ []
below-last [] q r n is isnt = absurd (none_some q (sym isnt))
below-last (x ∷ p) [] r n is isnt =
    elim (eq_by_cmp name_cmp x n) as (λ b. eq_by_cmp name_cmp x n ≡ b → cond b (below p []) None ≡ Some r → x ∷ p ≡ n ∷ []) [
      | true ↦ λ t e. λ i. name_exact x n (equal _ (subst T (sym t) tt)) i ∷ last_one p e i
      | false ↦ λ t e. absurd (none_some r e)
    ] refl is
  where
    last_one : (p : Names) → below p [] ≡ Some r → p ≡ []
    last_one [] e = refl
    last_one (y ∷ p) e = absurd (none_some r e)
below-last (x ∷ p) (y ∷ q) r n is isnt =
    elim (eq_by_cmp name_cmp x y) as (λ b. eq_by_cmp name_cmp x y ≡ b → cond b (below p (q ++ n ∷ [])) None ≡ Some r → cond b (below p q) None ≡ None → x ∷ p ≡ y ∷ (q ++ n ∷ [])) [
      | true ↦ λ t e f. λ i. name_exact x y (equal _ (subst T (sym t) tt)) i ∷ below-last p q r n e f i
      | false ↦ λ t e f. absurd (none_some r e)
    ] refl is isnt

same_name : (x : List ℕ) → eq_by_cmp name_cmp x x ≡ true
same_name x = ap is_eq (tied_itself nat_list_cmp_total x)

-- of two paths neither is at or below the other
pub apart_paths : (from to : Names) → below from to ≡ None → below to from ≡ None → (rest : Names) → below to (from ++ rest) ≡ None
apart_paths [] to h g rest = absurd (none_some to (sym h))
apart_paths (x ∷ from) [] h g rest = absurd (none_some (x ∷ from) (sym g))
apart_paths (x ∷ from) (y ∷ to) h g rest =
    elim (eq_by_cmp name_cmp y x) as (λ b. eq_by_cmp name_cmp y x ≡ b → cond b (below to from) None ≡ None → cond b (below to (from ++ rest)) None ≡ None) [
      | true ↦ λ t f.
          let same : y ≡ x = name_exact y x (equal _ (subst T (sym t) tt)) in
          let here : below from to ≡ None = ap (λ b. cond b (below from to) None) (sym (ap (eq_by_cmp name_cmp x) same ∙ same_name x)) ∙ h in
          apart_paths from to here f rest
      | false ↦ λ t f. refl
    ] refl g

module _ {B : Type 0} (t : Tree B) where
  first_step : (o : Option (Node B)) (next : Result (Unit {0}) Refusal) → in_directory o next ≡ Ok tt → o ≡ Some Dir
  first_step o next is = grind arith

  next_step : (o : Option (Node B)) (next : Result (Unit {0}) Refusal) → in_directory o next ≡ Ok tt → next ≡ Ok tt
  next_step o next is = grind arith

  -- where the walk to the parent succeeds, each proper front is a directory
  way_on-above : (done q : Names) (name : List ℕ) (rest : Names) → way_on t done (q ++ name ∷ rest) ≡ Ok tt → get t (done ++ q) ≡ Some Dir
  way_on-above done [] name rest is = ap (get t) (append-nil done) ∙ first_step (get t done) (way_on t (done ++ name ∷ []) rest) is
  way_on-above done (m ∷ q) name rest is =
      ap (get t) (sym (append_assoc done (m ∷ []) q))
      ∙ way_on-above (done ++ m ∷ []) q name rest (next_step (get t done) (way_on t (done ++ m ∷ []) (q ++ name ∷ rest)) is)

  pub walk_to_parent-above : (q : Names) (name : List ℕ) (rest : Names) → walk_to_parent t (q ++ name ∷ rest) ≡ Ok tt → get t q ≡ Some Dir
  unfolding walk_to_parent
  walk_to_parent-above q name rest is = way_on-above [] q name rest is

  module _ (is : IsTree t) (from to : Names) (from_to : below from to ≡ None) (to_from : below to from ≡ None) (parent : (q : Names) (name : List ℕ) → to ≡ q ++ name ∷ [] → get t q ≡ Some Dir) where
    found_by : (q : Names) → get (moved t from to) q ≡ moved_get t from q (below to q)
    found_by q = get-moved t from to q (apart_paths from to from_to to_from)

    from_named : from ≢ []
    from_named e = none_some to (sym (ap (λ f. below f to) (sym e) ∙ from_to))

    to_named : to ≢ []
    to_named e = none_some from (sym (ap (λ f. below f from) (sym e) ∙ to_from))

    -- elsewhere all stays
    stays : (q : Names) → below to q ≡ None → below from q ≡ None → get (moved t from to) q ≡ get t q
    stays q h g = found_by q ∙ ap (moved_get t from q) h ∙ ap (λ o. cond (is_some o) None (get t q)) g

    parents_moved : (path : Names) (name : List ℕ) (node : Node B) → get (moved t from to) (path ++ name ∷ []) ≡ Some node → get (moved t from to) path ≡ Some Dir
    parents_moved path name node there =
        elim (below to path) as (λ o. below to path ≡ o → get (moved t from to) path ≡ Some Dir) [
          | Some rest ↦ λ h.
              let at : get t (from ++ (rest ++ name ∷ [])) ≡ Some node =
              sym (found_by (path ++ name ∷ []) ∙ ap (moved_get t from (path ++ name ∷ [])) (below-more to path rest (name ∷ []) h)) ∙ there in
              found_by path ∙ ap (moved_get t from path) h
              ∙ is.parents (from ++ rest) name node (ap (get t) (append_assoc from rest (name ∷ [])) ∙ at)
          | None ↦ λ h. elim (below to (path ++ name ∷ [])) as (λ o. below to (path ++ name ∷ []) ≡ o → get (moved t from to) path ≡ Some Dir) [
            | Some r ↦ λ g.
                let last : to ≡ path ++ name ∷ [] = below-last to path r name g h in
                stays path h (not_below path name (sym last)) ∙ parent path name last
            | None ↦ λ g. elim (below from path) as (λ o. below from path ≡ o → get (moved t from to) path ≡ Some Dir) [
              | Some r ↦ λ f. absurd (none_some node (sym (found_by (path ++ name ∷ []) ∙ ap (moved_get t from (path ++ name ∷ [])) g
                  ∙ ap (λ o. cond (is_some o) None (get t (path ++ name ∷ []))) (below-more from path r (name ∷ []) f)) ∙ there))
              | None ↦ λ f. stays path h f ∙ elim (below from (path ++ name ∷ [])) as (λ o. below from (path ++ name ∷ []) ≡ o → get t path ≡ Some Dir) [
                | Some r ↦ λ k. absurd (none_some node (sym (found_by (path ++ name ∷ []) ∙ ap (moved_get t from (path ++ name ∷ [])) g
                    ∙ ap (λ o. cond (is_some o) None (get t (path ++ name ∷ []))) k) ∙ there))
                | None ↦ λ k. is.parents path name node (sym (stays (path ++ name ∷ []) g k) ∙ there)
              ] refl
            ] refl
          ] refl
        ] refl
      where
        not_below : (path : Names) (name : List ℕ) → path ++ name ∷ [] ≡ to → below from path ≡ None
        not_below path name e = elim (below from path) as (λ o. below from path ≡ o → o ≡ None) [
          | Some r ↦ λ f. absurd (none_some (r ++ name ∷ []) (sym from_to ∙ ap (below from) (sym e) ∙ below-more from path r (name ∷ []) f))
          | None ↦ λ f. refl
        ] refl

    pub IsTree-moved : IsTree (moved t from to)
    IsTree-moved = record {
      root = stays [] (below_root to to_named) (below_root from from_named) ∙ is.root;
      parents = parents_moved;
    }
