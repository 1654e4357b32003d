-- After each call a tree is a tree.
use Rattle.std.proofs.Common.{arith, ◌≡◌, ◌≢◌, ℕ, true, false, ◌&&◌, nat_eq, T, List, [], ◌∷◌, ◌++◌, length, Option, Some, None, is_some, Ok, Err, refl, ap, ◌∙◌, sym, subst}
use Rattle.std.proofs.lemmas.List.{append-nil, append_assoc}
use Rattle.std.specs.Ordering.{eq_by_cmp, is_eq}
use Rattle.std.specs.FinMap.{get, insert, remove}
use Rattle.std.specs.Cmp.{tied_itself}
use Rattle.hl_tree.specs.declared.call.Limits.{Limits}
use Rattle.hl_tree.specs.declared.call.Call.{Call}
use Rattle.hl_tree.specs.declared.call.Call.TheVariants as calls
use Rattle.hl_tree.specs.declared.call.Reply.{Reply}
use Rattle.hl_tree.specs.declared.node.Node.{Node}
use Rattle.hl_tree.specs.declared.node.Node.TheVariants.{Dir, File}
use Rattle.hl_tree.specs.Contents.{written, resized}
use Rattle.hl_tree.specs.Names.{path_cmp, below}
use Rattle.hl_tree.specs.Tree.{IsTree, moved, walk, walk_to_parent, content_at, names_in}
use Rattle.hl_tree.specs.Rules.{Files, Outcome, outcome, tree_of, after, make, write, cut, read, stat, list, unlink, rmdir, rename, replaced, is_directory}
use Rattle.hl_tree.proofs.Maps.{path_total}
use Rattle.hl_tree.proofs.NamesBelow.{append-below}
use Rattle.hl_tree.proofs.Moved.{Names}
use Rattle.hl_tree_laws.proofs.NamesIn.{contains_name, contains-names_in}
use Rattle.hl_tree_laws.proofs.Tree.{IsTree-insert, IsTree-remove}
use Rattle.hl_tree_laws.proofs.MovedTree.{walk_to_parent-above, IsTree-moved}
use Rattle.hl_tree_laws.proofs.Lookups.{above}
use Rattle.hl_tree.proofs.Lookups.{content_at-finds}

file_is_no_directory : (content : List ℕ) → Some (File content) ≢ Some Dir
file_is_no_directory content e = cc

nothing_is_no_directory : (o : Option (Node (List ℕ))) → o ≡ None → o ≢ Some Dir
nothing_is_no_directory o e f = subst T (sym (ap is_some (sym e) ∙ ap is_some f)) tt

nothing : {A : Type 0} (o : Option A) → is_some o ≡ false → o ≡ None
nothing None e = refl
nothing (Some x) e = absurd (subst T e tt)

no_names : (names : Names) → (nat_eq (length names) 0 ≡ true) → (name : List ℕ) → contains_name names name ≡ false
no_names [] e name = refl
no_names (x ∷ names) e name = let no : ⊥ = grind arith in absurd no

module _ (limits : Limits) (t : Files) (is : IsTree t) where
  IsTree-make : (node : Node (List ℕ)) (p : Names) (r : Reply) (new : Files) → make limits t node p ≡ Ok (r, new) → IsTree new
  unfolding make
  IsTree-make node p r new ok =
      let new_is : new ≡ insert t p node = grind arith in
      let free : get t p ≡ None = nothing (get t p) (grind arith) in
      let way : walk_to_parent t p ≡ Ok tt = grind arith in
      subst IsTree (sym new_is) (IsTree-insert t is p node (nothing_is_no_directory (get t p) free)
      (λ q name e. walk_to_parent-above t q name [] (ap (walk_to_parent t) (sym e) ∙ way)))

  -- a file with other bytes
  IsTree-file : (p : Names) (old new : List ℕ) → get t p ≡ Some (File old) → IsTree (insert t p (File new))
  IsTree-file p old new there = IsTree-insert t is p (File new) (λ e. file_is_no_directory old (sym there ∙ e))
      (λ q name e. is.parents q name (File old) (ap (get t) (sym e) ∙ there))

  IsTree-write : (p : Names) (at : ℕ) (bytes : List ℕ) (r : Reply) (new : Files) → write limits t p at bytes ≡ Ok (r, new) → IsTree new
  unfolding write
  IsTree-write p at bytes r new ok =
      elim (content_at t p) as (λ o. content_at t p ≡ o → IsTree new) [
        | Err why ↦ λ e. let no : ⊥ = grind arith in absurd no
        | Ok old ↦ λ e. elim (nat_eq (length bytes) 0) as (λ b. nat_eq (length bytes) 0 ≡ b → IsTree new) [
          | true ↦ λ z. let same : new ≡ t = grind arith in subst IsTree (sym same) is
          | false ↦ λ z. let new_is : new ≡ insert t p (File (written old at bytes)) = grind arith in subst IsTree (sym new_is) (IsTree-file p old (written old at bytes) (content_at-finds t p old e))
        ] refl
      ] refl

  IsTree-cut : (p : Names) (size : ℕ) (r : Reply) (new : Files) → cut limits t p size ≡ Ok (r, new) → IsTree new
  unfolding cut
  IsTree-cut p size r new ok =
      elim (content_at t p) as (λ o. content_at t p ≡ o → IsTree new) [
        | Err why ↦ λ e. let no : ⊥ = grind arith in absurd no
        | Ok old ↦ λ e. let new_is : new ≡ insert t p (File (resized old size)) = grind arith in subst IsTree (sym new_is) (IsTree-file p old (resized old size) (content_at-finds t p old e))
      ] refl

  IsTree-unlink : (p : Names) (r : Reply) (new : Files) → unlink limits t p ≡ Ok (r, new) → IsTree new
  unfolding unlink walk
  IsTree-unlink p r new ok =
      elim (get t p) as (λ o. get t p ≡ o → IsTree new) [
        | None ↦ λ e. let no : ⊥ = grind arith in absurd no
        | Some Dir ↦ λ e. let no : ⊥ = grind arith in absurd no
        | Some (File old) ↦ λ e.
            let new_is : new ≡ remove t p = grind arith in
            let named : p ≢ [] = λ root. file_is_no_directory old (sym e ∙ ap (get t) root ∙ is.root) in
            subst IsTree (sym new_is) (IsTree-remove t is p named (λ name. childless old e name (get t (p ++ name ∷ [])) refl))
      ] refl
    where
      childless : (old : List ℕ) → get t p ≡ Some (File old) → (name : List ℕ) (o : Option (Node (List ℕ))) → get t (p ++ name ∷ []) ≡ o → get t (p ++ name ∷ []) ≡ None
      childless old e name None h = h
      childless old e name (Some n) h = absurd (file_is_no_directory old (sym e ∙ is.parents p name n h))

  IsTree-rmdir : (p : Names) (r : Reply) (new : Files) → rmdir limits t p ≡ Ok (r, new) → IsTree new
  unfolding rmdir
  IsTree-rmdir p r new ok =
      let new_is : new ≡ remove t p = grind arith in
      let long : nat_eq (length p) 0 ≡ false = grind arith in
      let none : nat_eq (length (names_in t p)) 0 ≡ true = grind arith in
      subst IsTree (sym new_is) (IsTree-remove t is p (λ root. let no : ⊥ = grind arith in no)
      (λ name. nothing (get t (p ++ name ∷ [])) (sym (contains-names_in t p name) ∙ no_names (names_in t p) none name)))

  -- What a Rename that moves has found: neither path is at or below the other.
  module _ (from to : Names) (node : Node (List ℕ)) (there : get t from ≡ Some node) (differ : eq_by_cmp path_cmp from to ≡ false) (way : walk_to_parent t to ≡ Ok tt) (not_into : (is_directory limits t node && is_some (below from to)) ≡ false) (target : replaced limits t node to (get t to) ≡ Ok tt) where
    same_no : from ≡ to → ⊥
    same_no e = subst T (sym (ap is_eq (tied_itself path_total from)) ∙ ap (eq_by_cmp path_cmp from) e ∙ differ) tt

    at_file : (n : Node (List ℕ)) → get t from ≡ Some n → (is_directory limits t n && is_some (below from to)) ≡ false → (rest : Names) → below from to ≡ Some rest → ⊥
    at_file Dir e into rest h = subst T (sym (ap is_some h) ∙ into) tt
    at_file (File content) e into [] h = same_no (sym (append-nil from) ∙ append-below from to [] h)
    at_file (File content) e into (m ∷ ms) h = file_is_no_directory content (sym e ∙ walk_to_parent-above t from m ms (ap (walk_to_parent t) (append-below from to (m ∷ ms) h) ∙ way))

    pub rename_from_to : below from to ≡ None
    rename_from_to = elim (below from to) as (λ o. below from to ≡ o → o ≡ None) [ None ↦ λ h. refl | Some rest ↦ λ h. absurd (at_file node there not_into rest h) ] refl

    filled : (m : List ℕ) (ms : Names) → get t (to ++ m ∷ ms) ≡ Some node → is_some (get t (to ++ m ∷ [])) ≡ true
    filled m [] e = ap is_some e
    filled m (k ∷ ms) e = ap is_some (above t is (to ++ m ∷ []) k ms node (ap (get t) (append_assoc to (m ∷ []) (k ∷ ms)) ∙ e))

    empty_target : (n : Node (List ℕ)) → replaced limits t n to (Some Dir) ≡ Ok tt → nat_eq (length (names_in t to)) 0 ≡ true
    empty_target (File content) e = let no : ⊥ = grind arith in absurd no
    empty_target Dir e = grind arith

    under_to : (rest : Names) → below to from ≡ Some rest → ⊥
    under_to [] h = same_no (sym (append-below to from [] h) ∙ append-nil to)
    under_to (m ∷ ms) h =
        let at : get t (to ++ m ∷ ms) ≡ Some node = ap (get t) (append-below to from (m ∷ ms) h) ∙ there in
        let dir : get t to ≡ Some Dir = above t is to m ms node at in
        let none : nat_eq (length (names_in t to)) 0 ≡ true = empty_target node (ap (replaced limits t node to) (sym dir) ∙ target) in
        subst T (sym (contains-names_in t to m ∙ filled m ms at) ∙ no_names (names_in t to) none m) tt

    pub rename_to_from : below to from ≡ None
    rename_to_from = elim (below to from) as (λ o. below to from ≡ o → o ≡ None) [ None ↦ λ h. refl | Some rest ↦ λ h. absurd (under_to rest h) ] refl

  IsTree-rename : (from to : Names) (r : Reply) (new : Files) → rename limits t from to ≡ Ok (r, new) → IsTree new
  unfolding rename walk
  IsTree-rename from to r new ok =
      elim (get t from) as (λ o. get t from ≡ o → IsTree new) [
        | None ↦ λ e. let no : ⊥ = grind arith in absurd no
        | Some node ↦ λ e. elim (eq_by_cmp path_cmp from to) as (λ b. eq_by_cmp path_cmp from to ≡ b → IsTree new) [
          | true ↦ λ z. let same : new ≡ t = grind arith in subst IsTree (sym same) is
          | false ↦ λ z.
              let new_is : new ≡ moved t from to = grind arith in
              let way : walk_to_parent t to ≡ Ok tt = grind arith in
              let not_into : (is_directory limits t node && is_some (below from to)) ≡ false = grind arith in
              let target : replaced limits t node to (get t to) ≡ Ok tt = grind arith in
              subst IsTree (sym new_is) (IsTree-moved t is from to
              (rename_from_to from to node e z way not_into target)
              (rename_to_from from to node e z way not_into target)
              (λ q name f. walk_to_parent-above t q name [] (ap (walk_to_parent t) (sym f) ∙ way)))
        ] refl
      ] refl

  same_kept : (new : Files) → new ≡ t → IsTree new
  same_kept new e = subst IsTree (sym e) is

  IsTree-outcome : (call : Call) (r : Reply) (new : Files) → outcome limits t call ≡ Ok (r, new) → IsTree new
  unfolding read stat list
  IsTree-outcome (calls.Mkdir p) r new ok = IsTree-make Dir p r new ok
  IsTree-outcome (calls.Create p) r new ok = IsTree-make (File []) p r new ok
  IsTree-outcome (calls.Write p at bytes) r new ok = IsTree-write p at bytes r new ok
  IsTree-outcome (calls.Cut p size) r new ok = IsTree-cut p size r new ok
  IsTree-outcome (calls.Read p at len) r new ok = same_kept new (grind arith)
  IsTree-outcome (calls.Stat p) r new ok = same_kept new (grind arith)
  IsTree-outcome (calls.List p) r new ok = same_kept new (grind arith)
  IsTree-outcome (calls.Unlink p) r new ok = IsTree-unlink p r new ok
  IsTree-outcome (calls.Rmdir p) r new ok = IsTree-rmdir p r new ok
  IsTree-outcome (calls.Rename from to) r new ok = IsTree-rename from to r new ok
  IsTree-outcome calls.Sync r new ok = same_kept new (grind arith)

  of_outcome : (call : Call) (o : Outcome) → outcome limits t call ≡ o → IsTree (tree_of t o)
  of_outcome call (Ok done) ok = IsTree-outcome call done.0 done.1 ok
  of_outcome call (Err why) ok = is

  -- after every call the root is a directory, and so is each parent
  pub IsTree-after : (call : Call) → IsTree (after limits t call)
  IsTree-after call = of_outcome call (outcome limits t call) refl
