-- The root is a directory and so is each parent, after each change.
use Rattle.std.proofs.Common.{arith, ◌≡◌, ◌≢◌, ℕ, true, false, cond, T, List, [], ◌∷◌, ◌++◌, length, Some, None, is_some, refl, ap, ◌∙◌, sym, subst, length-append, ◌+◌}
use Rattle.std.specs.FinMap.{get, insert, remove, get-insert, get-remove}
use Rattle.hl_tree.specs.declared.node.Node.{Node}
use Rattle.hl_tree.specs.declared.node.Node.TheVariants.{Dir}
use Rattle.hl_tree.specs.Tree.{Tree, IsTree}
use Rattle.hl_tree.proofs.Maps.{path_total}
use Rattle.hl_tree.proofs.Moved.{Names, same, same_is}

-- a path is not its child
not_child : (path : Names) (name : List ℕ) → path ≡ path ++ name ∷ [] → ⊥
not_child path name e = let same_length : length path ≡ length (path ++ name ∷ []) = ap length e in let more : length (path ++ name ∷ []) ≡ length path + 1 = length-append path (name ∷ []) in absurd (omega arith)

module _ {B : Type 0} (t : Tree B) (is : IsTree t) (p : Names) where
  -- a node comes to a place whose parent is a directory and where no directory stands
  pub IsTree-insert : (node : Node B) → get t p ≢ Some Dir → ((q : Names) (name : List ℕ) → p ≡ q ++ name ∷ [] → get t q ≡ Some Dir) → IsTree (insert t p node)
  IsTree-insert node free parent = record {
    root = elim (same [] p) as (λ b. same [] p ≡ b → get (insert t p node) [] ≡ Some Dir) [
      | true ↦ λ e. absurd (free (ap (get t) (sym (same_is [] p e)) ∙ is.root))
      | false ↦ λ e. get-insert path_total t p node [] ∙ ap (λ b. cond b (Some node) (get t [])) e ∙ is.root
    ] refl;
    parents = λ path name found there.
        let was_there : get t path ≡ Some Dir =
        elim (same (path ++ name ∷ []) p) as (λ b. same (path ++ name ∷ []) p ≡ b → get t path ≡ Some Dir) [
          | true ↦ λ e. parent path name (sym (same_is _ p e))
          | false ↦ λ e. is.parents path name found (sym (get-insert path_total t p node (path ++ name ∷ []) ∙ ap (λ b. cond b (Some node) (get t (path ++ name ∷ []))) e) ∙ there)
        ] refl in
        elim (same path p) as (λ b. same path p ≡ b → get (insert t p node) path ≡ Some Dir) [
          | true ↦ λ e. absurd (free (ap (get t) (sym (same_is path p e)) ∙ was_there))
          | false ↦ λ e. get-insert path_total t p node path ∙ ap (λ b. cond b (Some node) (get t path)) e ∙ was_there
        ] refl;
  }

  -- a node without children goes
  pub IsTree-remove : p ≢ [] → ((name : List ℕ) → get t (p ++ name ∷ []) ≡ None) → IsTree (remove t p)
  IsTree-remove other alone = record {
    root = elim (same [] p) as (λ b. same [] p ≡ b → get (remove t p) [] ≡ Some Dir) [
      | true ↦ λ e. absurd (other (sym (same_is [] p e)))
      | false ↦ λ e. get-remove path_total t p [] ∙ ap (λ b. cond b None (get t [])) e ∙ is.root
    ] refl;
    parents = λ path name found there.
        elim (same (path ++ name ∷ []) p) as (λ b. same (path ++ name ∷ []) p ≡ b → get (remove t p) path ≡ Some Dir) [
          | true ↦ λ e. absurd (none_some found (sym (get-remove path_total t p (path ++ name ∷ []) ∙ ap (λ b. cond b None (get t (path ++ name ∷ []))) e) ∙ there))
          | false ↦ λ e.
              let was : get t (path ++ name ∷ []) ≡ Some found = sym (get-remove path_total t p (path ++ name ∷ []) ∙ ap (λ b. cond b None (get t (path ++ name ∷ []))) e) ∙ there in
              elim (same path p) as (λ b. same path p ≡ b → get (remove t p) path ≡ Some Dir) [
                | true ↦ λ f. absurd (none_some found (sym (alone name) ∙ ap (λ q. get t (q ++ name ∷ [])) (sym (same_is path p f)) ∙ was))
                | false ↦ λ f. get-remove path_total t p path ∙ ap (λ b. cond b None (get t path)) f ∙ is.parents path name found was
              ] refl
        ] refl;
  }
    where
      none_some : (n : Node B) → None ≡ Some n → ⊥
      none_some n e = subst T (ap is_some (sym e)) tt
