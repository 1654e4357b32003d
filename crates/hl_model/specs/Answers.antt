-- What a site answers.
use Rattle.std.specs.Prelude.{ℕ, List}
use Rattle.hl_tree.specs.declared.call.Reply.{Reply}
use Rattle.hl_tree.specs.declared.call.Refusal.{Refusal}
use Rattle.hl_media.specs.declared.mark.Mark.{Mark}
use Rattle.hl_media.specs.declared.job.JobNote.{JobNote}
use Rattle.hl_model.specs.Site as site

pub data SiteAnswer : Type 0 where
  Done : (reply : Reply) → SiteAnswer
  NoSpace : SiteAnswer
  Needs : (tseg : ℕ) → SiteAnswer
  Eio : SiteAnswer
  LogFull : SiteAnswer
  Memory : SiteAnswer
  Stopped : (faults : ℕ) → SiteAnswer
  PathRefused : (why : Refusal) → SiteAnswer
  Ranked : (paths : List (List (List ℕ))) → SiteAnswer
  Staged : (blocks volume slot line : ℕ) → SiteAnswer
  Nothing : SiteAnswer
  NoLine : SiteAnswer
  NoSlot : SiteAnswer
  Job : (job : JobNote) → SiteAnswer
  NoneLeft : SiteAnswer
  Busy : (volume job : ℕ) → SiteAnswer
  Drives : SiteAnswer
  Here : SiteAnswer
  Home : SiteAnswer
  Moved : (volume slot : ℕ) → SiteAnswer
  Stuck : SiteAnswer
  Bound : SiteAnswer
  Stale : SiteAnswer
  Evol : SiteAnswer
  Ebad : (kept found : Mark) → SiteAnswer
  Unmoved : SiteAnswer
  Ejected : SiteAnswer
  Staging : SiteAnswer
  Empty : SiteAnswer
  InJob : SiteAnswer
  Cleaned : (segment : ℕ) → SiteAnswer
  Checkpointed : SiteAnswer
  Posted : (number : ℕ) → SiteAnswer
  Request : (number tseg : ℕ) (keep : List ℕ) → SiteAnswer
  Waiting : SiteAnswer
  Settled : (how : site.RequestOutcome) → SiteAnswer
