-- File calls on a site.
use Rattle.std.specs.Prelude.{ℕ, find, fold, Option, Some, None, Result, Ok, Err, is_none}
use Rattle.hl_addr.specs.Layout.{Layout, quota}
use Rattle.hl_tree.specs.Refusals.{◌>>=◌, refused_if}
use Rattle.hl_tree.specs.declared.call.Call.{Call}
use Rattle.hl_tree.specs.declared.call.Reply.TheVariants as replies
use Rattle.hl_tree.specs.Rules.{outcome}
use Rattle.hl_placed.specs.Blocks.{Shelf}
use Rattle.hl_placed.specs.Calls.{placed_after, need}
use Rattle.hl_placed.specs.Charges.{is_over}
use Rattle.hl_placed.specs.Placed.{plain}
use Rattle.hl_model.specs.Answers.{SiteAnswer}
use Rattle.hl_model.specs.Answers as answers
use Rattle.hl_lines.specs.Lines.{line_with, touched}
use Rattle.hl_model.specs.Lines.{slot_with}
use Rattle.hl_model.specs.Site.{SiteState}
use Rattle.hl_model.specs.Ruled.{Ruled, by_rules, limits_of}

module _ (g : Layout) (s : SiteState) where
  abbrev pub line_of_serial : ℕ → Option ℕ
  line_of_serial serial = line_with s.lines (slot_with s.slots serial)

  -- the first segment that is needed and has no line
  abbrev pub all_there : Option ℕ → Result (Unit {0}) SiteAnswer
  all_there None = Ok tt
  all_there (Some serial) = Err (answers.Needs (slot_with s.slots serial))

  unfoldable pub file_call : Shelf → ℕ → Call → Ruled
  file_call shelf now call = do
    done ← by_rules (outcome (limits_of g) (plain shelf s.tree) call) (λ why. answers.Done (replies.Refused why))
    _ ← refused_if (is_over (quota g) (limits_of g) s.tree now call) answers.NoSpace
    _ ← all_there (find (λ serial. is_none (line_of_serial serial)) (need s.tree call))
    Ok (
      answers.Done done.0,
      record s {
        tree = placed_after (limits_of g) shelf s.tree now call;
        order = fold (λ order serial. touched s.lines order (line_of_serial serial)) s.order (need s.tree call);
      },
    )
