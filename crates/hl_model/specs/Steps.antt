-- One step of a site.
use Rattle.std.specs.Prelude.{◌≡◌, ℕ, ◌<◌, ◌≤◌, true, false, List, Some, ◌⊎◌}
use Rattle.std.specs.FinMap.{insert}
use Rattle.hl_addr.specs.Layout.{Layout}
use Rattle.hl_media.specs.Causes.{Rose}
use Rattle.hl_placed.specs.Blocks.{Shelf}
use Rattle.hl_placed.specs.Placed.{plain}
use Rattle.hl_model.specs.Answers.{SiteAnswer, Eio, Memory, LogFull}
use Rattle.hl_model.specs.Causes.{may_want, may_fail, may_break}
use Rattle.hl_model.specs.Dues.{is_due, finds_full}
use Rattle.hl_model.specs.Ends.{over}
use Rattle.hl_model.specs.Events.{SiteEvent, EndJob, Stage}
use Rattle.hl_model.specs.Cleaning.{LogUse}
use Rattle.hl_model.specs.Rules.{rules}
use Rattle.hl_model.specs.Site.{SiteState}
use Rattle.hl_model.specs.Ruled.{told_of}
use Rattle.hl_model.specs.Units.{LogGoesOn, LeavesLog, Middles, writes_more}

-- a site with its log and its machine's counts
pub record State : Type 0 where
  pub site : SiteState
  pub log : LogUse
  pub faults : ℕ
  pub write_faults : ℕ

-- what is left where a step is given up: a job that came back is over, and its volume is back
abbrev pub given_up : Layout → SiteState → SiteEvent → SiteState
given_up g s (EndJob job) = over g s job
given_up g s event = s

-- The machine's counts don't fall, and stay where no device is called.
pub record AreLater (g : Layout) (before : State) (event : SiteEvent) (after : State) : Type 0 where
  pub faults : before.faults ≤ after.faults
  pub write_faults : before.write_faults ≤ after.write_faults
  pub still : may_fail g before.site event ≡ false → after.faults ≡ before.faults

-- The first unit and the passes are behind a step, where they were due and the log had room.
pub record GoesFirst (g : Layout) (before : State) (event : SiteEvent) (log : LogUse) : Type 0 where
  pub room : finds_full g before.site before.log event ≡ false
  pub goes : LogGoesOn (is_due g before.site before.log event) before.log log

-- what the rules tell of a step whose first unit left this log
abbrev pub told_behind : Layout → Shelf → LogUse → SiteState → SiteEvent → SiteAnswer × SiteState
told_behind g shelf first s event = told_of s (rules g s first shelf event)

-- The answer and the site are those of the rules, and no write failed.
pub record IsRuled (g : Layout) (shelf : Shelf) (mid : Middles) (before : State) (event : SiteEvent)
    (answer : SiteAnswer) (after : State) : Type 0 where
  pub first : GoesFirst g before event mid.first
  pub told : told_behind g shelf mid.first before.site event ≡ (answer, after.site)
  pub leaves : LeavesLog answer mid after.log
  pub calm : after.write_faults ≡ before.write_faults
  pub later : AreLater g before event after

-- The step gave up, and no write failed. Its first unit may be written and its passes run.
pub record IsGivenUp (g : Layout) (before : State) (event : SiteEvent) (after : State) : Type 0 where
  pub left : after.site ≡ given_up g before.site event
  pub log : (after.log ≡ before.log) ⊎ GoesFirst g before event after.log
  pub calm : after.write_faults ≡ before.write_faults
  pub later : AreLater g before event after

-- Behind its first unit the step is to write another or a checkpoint, and fewer than six segments are clean.
pub record FindsFullBehind (g : Layout) (shelf : Shelf) (mid : Middles) (before : State) (event : SiteEvent)
    (log : LogUse) : Type 0 where
  pub first : GoesFirst g before event mid.first
  pub more : writes_more (told_behind g shelf mid.first before.site event).0 ≡ true
  pub full : mid.first.clean < 6
  pub stays : log ≡ mid.first

-- a unit or a checkpoint is due, and fewer than six segments are clean
abbrev pub FindsFull : Layout → Shelf → Middles → State → SiteEvent → LogUse → Type 0
FindsFull g shelf mid before event log =
    ((finds_full g before.site before.log event ≡ true) × (log ≡ before.log))
    ⊎ FindsFullBehind g shelf mid before event log

-- a staging that broke may have put its segment on the shelf, and nothing else did
abbrev pub shelf_broken : SiteEvent → Shelf → ℕ → List ℕ → Shelf
shelf_broken (Stage paths) shelf serial segment = insert shelf serial segment
shelf_broken event shelf serial segment = shelf

-- A write failed. The site is stopped and has the same plain tree; a segment that was to be staged may be named. Slots
-- and lines aren't told.
pub record HasBroken (g : Layout) (shelf : Shelf) (segment : List ℕ) (before : State) (event : SiteEvent)
    (after : State) : Type 0 where
  pub writes : may_break g before.site event ≡ true
  pub rose : Rose before.write_faults after.write_faults
  pub stopped : after.site.stopped ≡ Some after.faults
  pub plain : plain (shelf_broken event shelf before.site.next_serial segment) after.site.tree
      ≡ plain shelf before.site.tree
  pub jobs : after.site.jobs ≡ (given_up g before.site event).jobs
  pub counts : after.site.counts ≡ (given_up g before.site event).counts
  pub requests : after.site.requests ≡ before.site.requests
  pub serial : before.site.next_serial ≤ after.site.next_serial
  pub next_job : after.site.next_job ≡ before.site.next_job
  pub next_request : after.site.next_request ≡ before.site.next_request
  pub later : AreLater g before event after

-- A call failed. The site runs on only where no write was to be made, or none failed.
pub record RunsOn (g : Layout) (before : State) (event : SiteEvent) (after : State) : Type 0 where
  pub given_up : IsGivenUp g before event after
  pub none_failed : may_break g before.site event ≡ true → Rose before.write_faults after.write_faults → ⊥

pub record HasFailed (g : Layout) (shelf : Shelf) (mid : Middles) (before : State) (event : SiteEvent)
    (after : State) : Type 0 where
  pub may : may_fail g before.site event ≡ true
  pub rose : Rose before.faults after.faults
  pub leaves : RunsOn g before event after ⊎ HasBroken g shelf mid.segment before event after

-- Each answer but three is the rules'. Want of memory may come of each event that takes memory, a failed call of each that
-- calls a device, and a full log exactly where it is found.
abbrev pub SiteStep : Layout → Shelf → Middles → State → SiteEvent → SiteAnswer → State → Type 0
SiteStep g shelf mid before event Memory after =
    (may_want g before.site event ≡ true) × IsGivenUp g before event after
SiteStep g shelf mid before event LogFull after =
    FindsFull g shelf mid before event after.log × IsGivenUp g before event after
SiteStep g shelf mid before event Eio after = HasFailed g shelf mid before event after
SiteStep g shelf mid before event answer after = IsRuled g shelf mid before event answer after
