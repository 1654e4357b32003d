-- How a rename ends by numbers: one lemma an exit.
use Rattle.std.proofs.Common.{◌≡◌, ℕ, Bool, true, false, if◌then◌else◌, nat_eq, List, length, Option, Some, None, Ok, Err, refl, ap, ◌∙◌, is_some}
use Rattle.std.specs.Prelude.{◌&&◌}
use Rattle.std.specs.FinMap.{get}
use Rattle.std.specs.Ordering.{eq_by_cmp}
use Rattle.hl_tree.specs.declared.call.Limits.{Limits}
use Rattle.hl_tree.specs.declared.call.Reply.TheVariants as replies
use Rattle.hl_tree.specs.declared.call.Refusal.{Refusal}
use Rattle.hl_tree.specs.declared.call.Refusal.TheVariants.{Enoent, Einval, Enametoolong}
use Rattle.hl_tree.specs.Names.{below, is_too_long, path_cmp}
use Rattle.hl_tree.specs.Refusals.{◌>>=◌, refused_if}
use Rattle.hl_dir.specs.declared.entry.Entry.{Entry}
use Rattle.hl_placed.specs.Blocks.{PlacedFile}
use Rattle.hl_paths.specs.Entries.{entry_number}
use Rattle.hl_paths.specs.Numbered.{Numbering}
use Rattle.hl_paths.specs.Finding.{find_parent, last_name, named, parent_with}
use Rattle.hl_paths.specs.ByNumbers.{NumberedDone, at_number, is_directory_node, may_replace, onto_root, rename_by_numbers, renamed_nodes}
use Rattle.hl_calls.proofs.Chains.{goes_on, passes, refuses, stays_refused}

-- A RENAME
module _ (limits : Limits) (nodes : Numbering PlacedFile) (from to : List (List ℕ)) where
  pub rename_from_long : is_too_long from ≡ true → rename_by_numbers limits nodes from to ≡ Err Enametoolong
  unfolding rename_by_numbers
  rename_from_long long = refuses (is_too_long from) Enametoolong _ long

  module _ (short : is_too_long from ≡ false) where
    pub rename_to_long : is_too_long to ≡ true → rename_by_numbers limits nodes from to ≡ Err Enametoolong
    unfolding rename_by_numbers
    rename_to_long long = passes (is_too_long from) Enametoolong _ short ∙ refuses (is_too_long to) Enametoolong _ long

    module _ (to_short : is_too_long to ≡ false) where
      pub rename_root : nat_eq (length from) 0 ≡ true → rename_by_numbers limits nodes from to ≡ Err Einval
      unfolding rename_by_numbers
      rename_root root = passes (is_too_long from) Enametoolong _ short ∙ passes (is_too_long to) Enametoolong _ to_short ∙ refuses (nat_eq (length from) 0) Einval _ root

      module _ (some : nat_eq (length from) 0 ≡ false) where
        pub rename_lost : (why : Refusal) → find_parent nodes from ≡ Err why → rename_by_numbers limits nodes from to ≡ Err why
        unfolding rename_by_numbers
        rename_lost why lost = passes (is_too_long from) Enametoolong _ short ∙ passes (is_too_long to) Enametoolong _ to_short ∙ passes (nat_eq (length from) 0) Einval _ some
            ∙ stays_refused (find_parent nodes from) _ why lost

        module _ (number : ℕ) (es : List Entry) (parent : find_parent nodes from ≡ Ok (parent_with number es)) where
          pub rename_absent : entry_number es (last_name from) ≡ None → rename_by_numbers limits nodes from to ≡ Err Enoent
          unfolding rename_by_numbers
          rename_absent absent = passes (is_too_long from) Enametoolong _ short ∙ passes (is_too_long to) Enametoolong _ to_short ∙ passes (nat_eq (length from) 0) Einval _ some
              ∙ goes_on (find_parent nodes from) _ (parent_with number es) parent ∙ stays_refused (named (entry_number es (last_name from))) _ Enoent (ap named absent)

          module _ (child : ℕ) (there : entry_number es (last_name from) ≡ Some child) where
            -- what is done once the entry was found: by whether both paths are the same
            abbrev past_root : Bool → Bool → NumberedDone PlacedFile
            past_root is_dir true = onto_root is_dir
            past_root is_dir false = find_parent nodes to >>= (λ to_parent. may_replace is_dir (at_number limits nodes (entry_number to_parent.entries (last_name to)))
                >>= (λ _. Ok (replies.Ok, renamed_nodes limits nodes number (last_name from) child to_parent.number (last_name to) (entry_number to_parent.entries (last_name to)))))

            abbrev past_same : Bool → Bool → Bool → Bool → NumberedDone PlacedFile
            past_same true is_dir is_below is_root = Ok (replies.Ok, nodes)
            past_same false is_dir is_below is_root = refused_if (is_dir && is_below) Einval >>= (λ _. past_root is_dir is_root)

            rename_goes_on : rename_by_numbers limits nodes from to
                ≡ past_same (eq_by_cmp path_cmp from to) (is_directory_node (get nodes child)) (is_some (below from to)) (nat_eq (length to) 0)
            unfolding rename_by_numbers
            rename_goes_on = passes (is_too_long from) Enametoolong _ short ∙ passes (is_too_long to) Enametoolong _ to_short ∙ passes (nat_eq (length from) 0) Einval _ some
                ∙ goes_on (find_parent nodes from) _ (parent_with number es) parent ∙ goes_on (named (entry_number es (last_name from))) _ child (ap named there)
                ∙ by_same (eq_by_cmp path_cmp from to)
              where
                by_root : (b : Bool) → (if b then onto_root (is_directory_node (get nodes child)) else past_root (is_directory_node (get nodes child)) false) ≡ past_root (is_directory_node (get nodes child)) b
                by_root true = refl
                by_root false = refl

                by_same : (b : Bool) → (if b then Ok (replies.Ok, nodes) else (refused_if (is_directory_node (get nodes child) && is_some (below from to)) Einval
                    >>= (λ _. if nat_eq (length to) 0 then onto_root (is_directory_node (get nodes child)) else past_root (is_directory_node (get nodes child)) false)))
                    ≡ past_same b (is_directory_node (get nodes child)) (is_some (below from to)) (nat_eq (length to) 0)
                by_same true = refl
                by_same false = ap (λ (rest : NumberedDone PlacedFile). refused_if (is_directory_node (get nodes child) && is_some (below from to)) Einval >>= (λ _. rest)) (by_root (nat_eq (length to) 0))

            pub rename_same : eq_by_cmp path_cmp from to ≡ true → rename_by_numbers limits nodes from to ≡ Ok (replies.Ok, nodes)
            rename_same same = rename_goes_on ∙ ap (λ b. past_same b (is_directory_node (get nodes child)) (is_some (below from to)) (nat_eq (length to) 0)) same

            module _ (other : eq_by_cmp path_cmp from to ≡ false) (is_dir : Bool) (kind : is_directory_node (get nodes child) ≡ is_dir) where
              past_other : rename_by_numbers limits nodes from to ≡ past_same false is_dir (is_some (below from to)) (nat_eq (length to) 0)
              past_other = rename_goes_on ∙ ap (λ b. past_same b (is_directory_node (get nodes child)) (is_some (below from to)) (nat_eq (length to) 0)) other
                  ∙ ap (λ b. past_same false b (is_some (below from to)) (nat_eq (length to) 0)) kind

              pub rename_below : (is_dir && is_some (below from to)) ≡ true → rename_by_numbers limits nodes from to ≡ Err Einval
              rename_below under = past_other ∙ refuses (is_dir && is_some (below from to)) Einval _ under

              module _ (apart : (is_dir && is_some (below from to)) ≡ false) where
                past_apart : rename_by_numbers limits nodes from to ≡ past_root is_dir (nat_eq (length to) 0)
                past_apart = past_other ∙ passes (is_dir && is_some (below from to)) Einval _ apart

                pub rename_onto_root : nat_eq (length to) 0 ≡ true → rename_by_numbers limits nodes from to ≡ onto_root is_dir
                rename_onto_root root = past_apart ∙ ap (past_root is_dir) root

                module _ (named_to : nat_eq (length to) 0 ≡ false) where
                  past_named : rename_by_numbers limits nodes from to ≡ past_root is_dir false
                  past_named = past_apart ∙ ap (past_root is_dir) named_to

                  pub rename_to_lost : (why : Refusal) → find_parent nodes to ≡ Err why → rename_by_numbers limits nodes from to ≡ Err why
                  rename_to_lost why lost = past_named ∙ stays_refused (find_parent nodes to) _ why lost

                  module _ (to_number : ℕ) (to_es : List Entry) (to_parent : find_parent nodes to ≡ Ok (parent_with to_number to_es))
                      (target : Option ℕ) (at : entry_number to_es (last_name to) ≡ target) where
                    past_parent : rename_by_numbers limits nodes from to ≡ (may_replace is_dir (at_number limits nodes target)
                        >>= (λ _. Ok (replies.Ok, renamed_nodes limits nodes number (last_name from) child to_number (last_name to) target)))
                    past_parent = past_named ∙ goes_on (find_parent nodes to) _ (parent_with to_number to_es) to_parent
                        ∙ ap (λ (t : Option ℕ). may_replace is_dir (at_number limits nodes t) >>= (λ _. Ok (replies.Ok, renamed_nodes limits nodes number (last_name from) child to_number (last_name to) t))) at

                    pub rename_refused : (why : Refusal) → may_replace is_dir (at_number limits nodes target) ≡ Err why → rename_by_numbers limits nodes from to ≡ Err why
                    rename_refused why may = past_parent ∙ stays_refused (may_replace is_dir (at_number limits nodes target)) _ why may

                    pub rename_done : may_replace is_dir (at_number limits nodes target) ≡ Ok tt → rename_by_numbers limits nodes from to
                        ≡ Ok (replies.Ok, renamed_nodes limits nodes number (last_name from) child to_number (last_name to) target)
                    rename_done may = past_parent ∙ goes_on (may_replace is_dir (at_number limits nodes target)) _ tt may
