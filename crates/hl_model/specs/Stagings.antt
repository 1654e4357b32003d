-- Staging on a site.
use Rattle.std.specs.Prelude.{ℕ, ◌-◌, ◌==◌, nat_le, List, [], ◌∷◌, take, length, set, ok_or, Result, Ok}
use Rattle.hl_addr.specs.Layout.{Layout, data_max}
use Rattle.hl_tree.specs.Refusals.{◌>>=◌, refused_if}
use Rattle.hl_tree.specs.Tree.{content_at}
use Rattle.hl_tseg.specs.declared.slot.Slot.TheVariants.{Staged}
use Rattle.hl_placed.specs.Staging.{Spot, resident, put_away}
use Rattle.hl_model.specs.Answers.{SiteAnswer}
use Rattle.hl_model.specs.Answers as answers
use Rattle.hl_addr.specs.Slots.{volume_of, place_of}
use Rattle.hl_lines.specs.Lines.{all_but, victim}
use Rattle.hl_model.specs.Lines.{count_held, next_free}
use Rattle.hl_model.specs.Site.{SiteState, next}
use Rattle.hl_model.specs.Ruled.{Ruled, by_rules}
use Rattle.hl_lines.specs.declared.state.LineState.TheVariants.{Staging}

module _ (g : Layout) (s : SiteState) where
  -- each path names a file
  abbrev pub are_files : List (List (List ℕ)) → Result (Unit {0}) SiteAnswer
  are_files [] = Ok tt
  are_files (path ∷ paths) = do
    _ ← by_rules (content_at s.tree path) answers.PathRefused
    are_files paths

  abbrev pub chosen : List (List (List ℕ)) → List Spot
  chosen paths = take (data_max g) (resident s.tree paths)

  unfoldable pub stage : List (List (List ℕ)) → Ruled
  stage paths = do
    _ ← are_files paths
    _ ← refused_if (length (resident s.tree paths) == 0) answers.Nothing
    _ ← refused_if (nat_le (g.lines - 12) (count_held s.lines)) answers.NoLine
    t ← ok_or (next_free g s.slots s.full) answers.NoSlot
    line ← ok_or (victim s.lines s.order []) answers.NoLine
    Ok (
      answers.Staged (length (chosen paths)) (volume_of g.volumes t) (place_of g.volumes t) line,
      record s {
        tree = put_away s.next_serial 1 (chosen paths) s.tree;
        slots = set s.slots t (Staged line s.next_serial);
        lines = set s.lines line (Staging t);
        order = all_but line s.order;
        next_serial = next s.next_serial;
      },
    )
