-- The root alone, under number 1.
use Rattle.std.proofs.Common.{◌≡◌, ℕ, List, [], Option, Some, None, cond, refl, ap, ◌∙◌, sym, subst, inl, inr, true, false}
use Rattle.std.specs.Option.{option_map}
use Rattle.std.specs.Ordering.{nat_cmp}
use Rattle.std.specs.FinMap.{get, empty, get-insert, get-empty}
use Rattle.hl_tree.specs.declared.node.Node.TheVariants.{Dir}
use Rattle.hl_tree.specs.Names.{path_cmp}
use Rattle.hl_tree.specs.Tree.{root_alone}
use Rattle.hl_tree.proofs.Maps.{path_total}
use Rattle.hl_tree.proofs.Moved.{Names, same, same_is}
use Rattle.hl_dir.specs.Dirs.{AreEntries}
use Rattle.hl_paths.specs.Entries.{entry_number}
use Rattle.hl_paths.specs.Links.{resolve}
use Rattle.hl_paths.specs.Numbered.{NumberedNode, Directory, Numbering, links, IsTreeOf, tree_node, found_node, root_number}
use Rattle.hl_paths.proofs.Links.{none_some, last_of, parent_of, resolve-root}
use Rattle.hl_paths.proofs.Entries.{AreEntries-none}
use Rattle.hl_paths.proofs.Nodes.{some_of, path_differs, directory_of, get-put_here, put-cases, linked_by}

module _ (B : Type 0) where
  abbrev alone : Numbering B
  alone = root_number

  none_else : (P : Type 0) (number : ℕ) (found : NumberedNode B) → get (empty {X = NumberedNode B} {R = nat_cmp}) number ≡ Some found → P
  none_else P number found there = absurd (none_some (sym (get-empty nat_cmp number) ∙ there))

  no_links : (number : ℕ) (name : List ℕ) (child : ℕ) → links alone number name ≡ Some child → ⊥
  no_links number name child led =
      let of = directory_of alone number name child led in
      put-cases empty 1 (Directory []) ⊥ number (Directory of.0) of.1 (λ e f. let same : [] ≡ of.0 = cc in none_some (ap (λ es. entry_number es name) same ∙ of.2)) (λ e f. none_else ⊥ number _ f)

  only_root : (path : Names) (number : ℕ) → resolve (links alone) path ≡ Some number → path ≡ []
  only_root path number at = elim (last_of path) as (λ _. path ≡ []) [
    | inl root ↦ root
    | inr (front, name, e) ↦ let parent = parent_of (links alone) front name number (ap (resolve (links alone)) (sym e) ∙ at) in absurd (no_links parent.0 name number parent.2)
  ]

  -- the root's number makes the root alone
  pub IsTreeOf-root : IsTreeOf alone root_alone
  IsTreeOf-root = record {
    linked = linked_by alone ([], get-put_here empty 1 (Directory []))
        (λ number es there. put-cases empty 1 (Directory []) (AreEntries es) number (Directory es) there (λ e f. let same : [] ≡ es = cc in subst AreEntries same AreEntries-none) (λ e f. none_else (AreEntries es) number _ f))
        (λ number name child led. absurd (no_links number name child led))
        (λ path other number e f. only_root path number e ∙ sym (only_root other number f))
        (λ number there.
        let found = some_of (get alone number) there in
        put-cases empty 1 (Directory []) ((path : Names) × (resolve (links alone) path ≡ Some number)) number found.0 found.1
        (λ e f. ([], resolve-root (links alone) ∙ ap Some (sym e))) (λ e f. none_else _ number _ f));
    same = λ path.
        get-insert path_total empty [] Dir path
        ∙ elim (same path []) as (λ b. same path [] ≡ b → cond b (Some Dir) (get (empty {R = path_cmp}) path) ≡ found_node alone (resolve (links alone) path)) [
          | true ↦ λ e. sym (ap (found_node alone) (ap (resolve (links alone)) (same_is path [] e) ∙ resolve-root (links alone)) ∙ ap (option_map tree_node) (get-put_here empty 1 (Directory [])))
          | false ↦ λ e. get-empty path_cmp path ∙ none_found path e (resolve (links alone) path) refl
        ] refl;
  }
    where
      none_found : (path : Names) → same path [] ≡ false → (o : Option ℕ) → resolve (links alone) path ≡ o → None ≡ found_node alone o
      none_found path e None at = refl
      none_found path e (Some number) at = absurd (differ e (only_root path number at))
        where
          differ : same path [] ≡ false → path ≡ [] → ⊥
          differ e f = path_differs path [] e f
