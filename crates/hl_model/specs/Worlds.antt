-- A site with the jobs that are out, and what is asked of them.
use Rattle.std.specs.Prelude.{◌≡◌, ◌⊎◌, ℕ, ◌==◌, not, if◌then◌else◌, List, [], ◌∷◌, ◌++◌, map, filter, Contains, Option, Some, None}
use Rattle.hl_addr.specs.Layout.{Layout}
use Rattle.hl_media.specs.declared.job.Carried.{Carried}
use Rattle.hl_media.specs.declared.job.Carried.TheVariants.{EndOfMedium}
use Rattle.hl_media.specs.declared.job.JobKind.TheVariants.{Copy}
use Rattle.hl_media.specs.declared.job.JobNote.{JobNote}
use Rattle.hl_placed.specs.Blocks.{Shelf}
use Rattle.hl_model.specs.Answers.{SiteAnswer}
use Rattle.hl_model.specs.Answers as answers
use Rattle.hl_model.specs.Events.{SiteEvent, Back, EndJob}
use Rattle.hl_model.specs.Runs.{Takes, shelf_behind}
use Rattle.hl_model.specs.Steps.{State}
use Rattle.hl_model.specs.Units.{Middles}

-- a job that is held: what went out with it, and how it was carried, if it was
pub record HeldJob : Type 0 where
  pub note : JobNote
  pub carried : Option Carried

-- a site with its shelf, and the jobs that are out, in the order in which they left
pub record WorldState : Type 0 where
  pub state : State
  pub shelf : Shelf
  pub held : List HeldJob

-- all but the job that has this volume
abbrev pub without : ℕ → List HeldJob → List HeldJob
without volume held = filter (λ (other : HeldJob). not (other.note.volume == volume)) held

-- The jobs that are held behind an answer: one more where one went out, and one less where one came back, but for Unmoved.
abbrev pub held_behind : SiteEvent → SiteAnswer → List HeldJob → List HeldJob
held_behind event (answers.Job note) held = held ++ (record { note = note; carried = None }) ∷ []
held_behind (EndJob job) answers.Unmoved held = held
held_behind (EndJob job) answer held = without job.note.volume held
held_behind event answer held = held

-- one step of the site
pub record Asks (g : Layout) (w : WorldState) (event : SiteEvent) (answer : SiteAnswer) (after : WorldState) : Type 0 where
  pub mid : Middles
  pub takes : Takes g w.shelf w.state (record { event = event; answer = answer; mid = mid }) after.state
  pub shelf : after.shelf
      ≡ shelf_behind event answer after.state.site.stopped w.shelf w.state.site.next_serial mid.segment
  pub held : after.held ≡ held_behind event answer w.held

-- JOBS

abbrev pub carried_by : ℕ → Carried → HeldJob → HeldJob
carried_by volume how other = if other.note.volume == volume then record other { carried = Some how } else other

-- A job is carried, which it wasn't before. Only a copy meets the end of its medium. The site stays.
pub record Carries (w : WorldState) (job : HeldJob) (how : Carried) (after : WorldState) : Type 0 where
  pub held : Contains w.held job
  pub fresh : job.carried ≡ None
  pub medium : how ≡ EndOfMedium → job.note.kind ≡ Copy
  pub leaves : after ≡ record w { held = map (carried_by job.note.volume how) w.held }

-- a job comes back as it was carried, if it was
pub record ComesBack (g : Layout) (w : WorldState) (out : JobNote) (how : Option Carried) (answer : SiteAnswer)
    (after : WorldState) : Type 0 where
  pub job : Back
  pub note : job.note ≡ out
  pub carried : job.carried ≡ how
  pub asks : Asks g w (EndJob job) answer after

-- the job was carried so before, or is carried so now
abbrev pub IsCarried : WorldState → HeldJob → Carried → WorldState → Type 0
IsCarried w job how after = ((job.carried ≡ Some how) × (after ≡ w)) ⊎ Carries w job how after

-- a job is carried, if it wasn't, and ended
pub record EndsJob (g : Layout) (w : WorldState) (job : HeldJob) (answer : SiteAnswer) (after : WorldState) : Type 0 where
  pub how : Carried
  pub mid : WorldState
  pub carries : IsCarried w job how mid
  pub comes_back : ComesBack g mid job.note (Some how) answer after
