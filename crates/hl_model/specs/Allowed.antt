-- The conditions of events.
use Rattle.std.specs.Prelude.{◌≡◌, ℕ, ◌≤◌, length, Some}
use Rattle.hl_media.specs.Causes.{Rose}
use Rattle.hl_model.specs.Cache.{IsOut}
use Rattle.hl_model.specs.Events.{SiteEvent, Back, Stage, BeginNeed, EndJob, Post}
use Rattle.hl_media.specs.declared.job.Carried.TheVariants.{Fault, EndOfMedium}
use Rattle.hl_media.specs.declared.job.JobKind.TheVariants.{Copy}
use Rattle.hl_model.specs.Site.{SiteState}

-- What comes back with a job: it is one of the site's, its volume's count didn't fall, and rose where the transfer met a
-- fault; and only a copy meets the end of its medium.
pub record IsBack (s : SiteState) (job : Back) : Type 0 where
  pub out : IsOut job.note s.jobs
  pub later : job.note.faults ≤ job.faults
  pub fault : (faults : ℕ) → job.carried ≡ Some (Fault faults) → Rose job.note.faults job.faults
  pub medium : job.carried ≡ Some EndOfMedium → job.note.kind ≡ Copy

-- 1 to 64 paths, at most eight segments to keep, and a job that is the site's
abbrev pub IsAllowed : SiteState → SiteEvent → Type 0
IsAllowed s (Stage paths) = (1 ≤ length paths) × (length paths ≤ 64)
IsAllowed s (BeginNeed t keep) = length keep ≤ 8
IsAllowed s (Post t keep) = length keep ≤ 8
IsAllowed s (EndJob job) = IsBack s job
IsAllowed s event = Unit {0}
