-- The rules of a rename, by what is found of its two ends.
use Rattle.std.proofs.Common.{◌≡◌, ℕ, true, false, nat_eq, List, length, is_some, Option, Some, None, Result, Ok, Err, refl, ap, ◌∙◌}
use Rattle.std.specs.Prelude.{◌&&◌}
use Rattle.std.specs.Ordering.{eq_by_cmp}
use Rattle.hl_inode.specs.declared.inode.Kind.{Kind}
use Rattle.hl_inode.specs.declared.inode.Kind.TheVariants.{Dir, File}
use Rattle.hl_tree.specs.declared.call.Limits.{Limits}
use Rattle.hl_tree.specs.declared.call.Reply.TheVariants as replies
use Rattle.hl_tree.specs.declared.call.Refusal.{Refusal}
use Rattle.hl_tree.specs.declared.call.Refusal.TheVariants.{Einval, Enoent}
use Rattle.hl_tree.specs.Names.{below, is_too_long, path_cmp}
use Rattle.hl_tree.specs.Refusals.{◌>>=◌}
use Rattle.hl_placed.specs.Blocks.{PlacedFile}
use Rattle.hl_paths.specs.ByNumbers.{NumberedDone, at_number, may_replace, onto_root, rename_by_numbers, renamed_nodes}
use Rattle.hl_paths.specs.Entries.{entry_number}
use Rattle.hl_paths.specs.Finding.{Parent, find_parent, last_name, named}
use Rattle.hl_paths.specs.Numbered.{Numbering}
use Rattle.hl_rename.specs.declared.finding.Source.{Source}
use Rattle.hl_rename.specs.declared.finding.Target.{Target}
use Rattle.hl_rename.specs.RenameEnds.{HasNoSource, HasNoTarget, IsSource, IsTarget, is_dir, root_kept, standing}
use Rattle.hl_rename.proofs.RenameExits.{rename_absent, rename_below, rename_done, rename_lost, rename_onto_root, rename_refused, rename_same, rename_to_lost}

module _ (limits : Limits) (nodes : Numbering PlacedFile) where
  -- what stands under a number
  standing_is : (number : Option ℕ) → at_number limits nodes number ≡ standing nodes number
  standing_is None = refl
  standing_is (Some number) = refl

  module _ (from to : List (List ℕ)) (short : is_too_long from ≡ false) (to_short : is_too_long to ≡ false) (some : nat_eq (length from) 0 ≡ false) where
    abbrev pub renamed_by : NumberedDone PlacedFile
    renamed_by = rename_by_numbers limits nodes from to

    -- NOTHING MOVES where nothing stands
    pub source_lost : (why : Refusal) → HasNoSource from nodes why → renamed_by ≡ Err why
    source_lost why is = by_parent (find_parent nodes from) refl is
      where
        by_entry : (p : Parent) → find_parent nodes from ≡ Ok p → (o : Option ℕ) → entry_number p.entries (last_name from) ≡ o → named o ≡ Err why → renamed_by ≡ Err why
        by_entry p led None at lost = rename_absent limits nodes from to short to_short some p.number p.entries led at ∙ (let same : Enoent ≡ why = cc in ap Err same)
        by_entry p led (Some child) at lost = cc

        by_parent : (r : Result Parent Refusal) → find_parent nodes from ≡ r → (r >>= (λ parent. named (entry_number parent.entries (last_name from)))) ≡ Err why → renamed_by ≡ Err why
        by_parent (Err other) led lost = rename_lost limits nodes from to short to_short some other led ∙ (let same : other ≡ why = cc in ap Err same)
        by_parent (Ok p) led lost = by_entry p led (entry_number p.entries (last_name from)) refl lost

    module _ (source : Source) (is : IsSource nodes from source) where
      -- nothing changes where both paths are the same
      pub source_same : eq_by_cmp path_cmp from to ≡ true → renamed_by ≡ Ok (replies.Ok, nodes)
      source_same same = rename_same limits nodes from to short to_short some source.parent.number is.entries is.led source.number is.there same

      module _ (other : eq_by_cmp path_cmp from to ≡ false) where
        -- no directory comes below itself
        pub source_below : (is_dir source.kind && is_some (below from to)) ≡ true → renamed_by ≡ Err Einval
        source_below under = rename_below limits nodes from to short to_short some source.parent.number is.entries is.led source.number is.there other (is_dir source.kind) is.kind under

        module _ (apart : (is_dir source.kind && is_some (below from to)) ≡ false) where
          -- nothing takes the root's place
          pub source_onto_root : nat_eq (length to) 0 ≡ true → renamed_by ≡ Err (root_kept source.kind)
          source_onto_root root = rename_onto_root limits nodes from to short to_short some source.parent.number is.entries is.led source.number is.there other (is_dir source.kind) is.kind apart root ∙ by_kind source.kind
            where
              by_kind : (kind : Kind) → onto_root {B = PlacedFile} (is_dir kind) ≡ Err (root_kept kind)
              by_kind Dir = refl
              by_kind File = refl

          module _ (named_to : nat_eq (length to) 0 ≡ false) where
            -- NOTHING MOVES to where it can't stand
            pub target_lost : (why : Refusal) → HasNoTarget source.kind to nodes why → renamed_by ≡ Err why
            target_lost why lost = by_parent (find_parent nodes to) refl lost
              where
                by_parent : (r : Result Parent Refusal) → find_parent nodes to ≡ r → (r >>= (λ parent. may_replace (is_dir source.kind) (standing nodes (entry_number parent.entries (last_name to))))) ≡ Err why → renamed_by ≡ Err why
                by_parent (Err why_not) led lost = rename_to_lost limits nodes from to short to_short some source.parent.number is.entries is.led source.number is.there other (is_dir source.kind) is.kind apart named_to why_not led
                    ∙ (let same : why_not ≡ why = cc in ap Err same)
                by_parent (Ok p) led lost = rename_refused limits nodes from to short to_short some source.parent.number is.entries is.led source.number is.there other (is_dir source.kind) is.kind apart named_to p.number p.entries led
                    (entry_number p.entries (last_name to)) refl why (ap (may_replace (is_dir source.kind)) (standing_is (entry_number p.entries (last_name to))) ∙ lost)

            -- and else it moves
            pub source_moves : (target : Target) → IsTarget nodes source.kind to target
                → renamed_by ≡ Ok (replies.Ok, renamed_nodes limits nodes source.parent.number (last_name from) source.number target.parent.number (last_name to) target.number)
            source_moves target goal = rename_done limits nodes from to short to_short some source.parent.number is.entries is.led source.number is.there other (is_dir source.kind) is.kind apart named_to
                target.parent.number goal.entries goal.led target.number goal.at (ap (may_replace (is_dir source.kind)) (standing_is target.number) ∙ goal.may)
