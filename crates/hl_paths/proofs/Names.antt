-- The names in a directory are those of its entries.
use Rattle.std.proofs.Common.{◌≡◌, ℕ, Bool, true, false, ◌&&◌, ◌||◌, cond, T, List, [], ◌∷◌, ◌++◌, Option, Some, None, is_some, refl, ap, ◌∙◌, sym, subst}
use Rattle.std.specs.Option.{option_map}
use Rattle.std.specs.Ordering.{is_lt}
use Rattle.std.specs.FinMap.{get}
use Rattle.std.specs.FinMap.Entries.{below_all, is_sorted}
use Rattle.hl_tree.specs.Tree.{Tree, names_in}
use Rattle.hl_tree.proofs.NamesBelow.{name_cmp}
use Rattle.hl_tree.proofs.Moved.{Names}
use Rattle.hl_tree_laws.proofs.NamesIn.{as_entries, contains_name, names_rise, names_in-is}
use Rattle.hl_dir.specs.declared.entry.Entry.{Entry}
use Rattle.hl_paths.specs.Links.{step, resolve, same_name}
use Rattle.hl_paths.specs.Entries.{entry_number, entry_names}
use Rattle.hl_paths.specs.Numbered.{Directory, Numbering, links, IsTreeOf, tree_node, found_node}
use Rattle.hl_paths.proofs.Links.{resolve-last}
use Rattle.hl_paths.proofs.Entries.{rows, sorted_rows}
use Rattle.hl_paths.proofs.Nodes.{links-of, some_of}

below_names : (name : List ℕ) (es : List Entry) → below_all name_cmp name (as_entries (entry_names es)) ≡ below_all name_cmp name (rows es)
below_names name [] = refl
below_names name (e ∷ es) = ap (λ b. is_lt (name_cmp name e.name) && b) (below_names name es)

rise-rows : (es : List Entry) → names_rise (entry_names es) ≡ is_sorted name_cmp (rows es)
rise-rows [] = refl
rise-rows (e ∷ es) = λ i. below_names e.name es i && rise-rows es i

contains-entry_number : (es : List Entry) (name : List ℕ) → contains_name (entry_names es) name ≡ is_some (entry_number es name)
contains-entry_number [] name = refl
contains-entry_number (e ∷ es) name = ap (λ b. same_name name e.name || b) (contains-entry_number es name) ∙ either (same_name name e.name) (entry_number es name)
  where
    either : (b : Bool) (o : Option ℕ) → (b || is_some o) ≡ is_some (cond b (Some e.ino) o)
    either true o = refl
    either false o = refl

module _ {B : Type 0} (nodes : Numbering B) (t : Tree B) (is : IsTreeOf nodes t) (path : Names) (number : ℕ) (es : List Entry) (at : resolve (links nodes) path ≡ Some number) (there : get nodes number ≡ Some (Directory es)) where
  -- what a tree has below a directory, by its entries
  pub get-child : (name : List ℕ) → get t (path ++ name ∷ []) ≡ found_node nodes (entry_number es name)
  get-child name = is.same (path ++ name ∷ []) ∙ ap (found_node nodes) (resolve-last (links nodes) path name ∙ ap (λ o. step (links nodes) o name) at ∙ links-of nodes number (Directory es) name there)

  -- a name leads to a node exactly where it is among the entries
  pub child_there : (name : List ℕ) → is_some (get t (path ++ name ∷ [])) ≡ is_some (entry_number es name)
  child_there name = ap is_some (get-child name) ∙ by_number (entry_number es name) refl
    where
      by_number : (o : Option ℕ) → entry_number es name ≡ o → is_some (found_node nodes o) ≡ is_some o
      by_number None led = refl
      by_number (Some child) led =
          let found = some_of (get nodes child) (is.linked.used number name child (links-of nodes number (Directory es) name there ∙ led)) in
          ap (λ o. is_some (option_map tree_node o)) found.1

  pub names_in-entries : names_in t path ≡ entry_names es
  names_in-entries = names_in-is t path (entry_names es)
      (subst T (sym (rise-rows es)) (sorted_rows es (is.linked.entries number es there).1.1))
      (λ name. contains-entry_number es name ∙ sym (child_there name))
