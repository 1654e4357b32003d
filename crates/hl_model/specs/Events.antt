-- What is asked of a site.
use Rattle.std.specs.Prelude.{ℕ, Bool, true, false, List, Option}
use Rattle.hl_tree.specs.declared.call.Call.{Call}
use Rattle.hl_media.specs.declared.mark.Mark.{Mark}
use Rattle.hl_media.specs.declared.job.Carried.{Carried}
use Rattle.hl_media.specs.declared.job.JobNote.{JobNote}

-- A job that comes back: its note, how it ended and its volume's count; and, for a fetch, the digest that its buffer
-- carries, and the serial that the buffer carries with the digest of its bytes.
pub record Back : Type 0 where
  pub note : JobNote
  pub carried : Option Carried
  pub digest : List ℕ
  pub found : Mark
  pub faults : ℕ

pub data SiteEvent : Type 0 where
  FileCall : (now : ℕ) (call : Call) → SiteEvent
  Rank : (now count : ℕ) → SiteEvent
  Stage : (paths : List (List (List ℕ))) → SiteEvent
  BeginCopy : SiteEvent
  BeginFetch : (path : List (List ℕ)) (block : ℕ) → SiteEvent
  BeginNeed : (tseg : ℕ) (keep : List ℕ) → SiteEvent
  EndJob : (job : Back) → SiteEvent
  Eject : (line : ℕ) → SiteEvent
  CleanOne : SiteEvent
  Checkpoint : SiteEvent
  Post : (tseg : ℕ) (keep : List ℕ) → SiteEvent
  NextRequest : SiteEvent
  Settle : (request : ℕ) → SiteEvent
  Look : (request : ℕ) → SiteEvent

abbrev pub ends_no_job : SiteEvent → Bool
ends_no_job (EndJob job) = false
ends_no_job event = true
