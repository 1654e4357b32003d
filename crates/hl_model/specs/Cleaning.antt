-- What a site knows of its log, and cleaning.
use Rattle.std.specs.Prelude.{ℕ, ◌+◌, ◌/◌, Bool, ◌&&◌, nat_le, not, if◌then◌else◌, List, [], ◌∷◌, filter, ok_or, option_map, Option, Some, None, Ok}
use Rattle.hl_addr.specs.Layout.{Layout}
use Rattle.hl_tree.specs.Refusals.{◌>>=◌}
use Rattle.hl_model.specs.Answers.{SiteAnswer}
use Rattle.hl_model.specs.Answers as answers
use Rattle.hl_model.specs.Lines.{among}
use Rattle.hl_model.specs.Site.{SiteState}
use Rattle.hl_model.specs.Ruled.{Ruled}

-- a log segment: what the blocks of the tree in it are charged, and how many current table blocks lie in it
pub record Live : Type 0 where
  pub segment : ℕ
  pub charge : ℕ
  pub tables : ℕ

abbrev pub live_number : Live → ℕ
live_number one = one.charge + one.tables

-- what a site knows of its log
pub record LogUse : Type 0 where
  -- the number of the newest record
  pub number : ℕ
  -- the segments that were cleaned since it was written, and each used one but the head, in order
  pub cleaned : List ℕ
  pub live : List Live
  -- how many segments are clean
  pub clean : ℕ
  -- how many blocks and freed inode numbers wait for a unit, and that nothing at all waits for one
  pub dirty : ℕ
  pub tidy : Bool
  -- the passes behind the last unit weren't all run
  pub left : Bool

-- the segment with the least live number, the lowest of equals
abbrev pub less_live : Live → Option Live → Live
less_live one None = one
less_live one (Some other) = if nat_le (live_number one) (live_number other) then one else other

abbrev pub least_live : List Live → Option Live
least_live [] = None
least_live (one ∷ rest) = Some (less_live one (least_live rest))

abbrev pub least : List Live → Option ℕ
least live = option_map (λ (one : Live). one.segment) (least_live live)

module _ (g : Layout) (s : SiteState) where
  -- a used segment, neither the head nor cleaned since the last checkpoint, of which a quarter at most is live
  abbrev pub may_clean : LogUse → Live → Bool
  may_clean log one = nat_le (live_number one) (g.k / 4) && not (among one.segment log.cleaned)

  unfoldable pub clean_one : LogUse → Ruled
  clean_one log = do
    segment ← ok_or (least (filter (may_clean log) log.live)) answers.NoneLeft
    Ok (answers.Cleaned segment, s)
