-- What a step does to lines, slots and buffers, as far as a shelf is concerned.
use Rattle.std.specs.Prelude.{◌≡◌, ◌≢◌, ◌⊎◌, ℕ, List, Contains, None}
use Rattle.hl_model.specs.Answers.{SiteAnswer}
use Rattle.hl_model.specs.Answers as answers
use Rattle.hl_model.specs.Cache.{IsOut}
use Rattle.hl_model.specs.Events.{SiteEvent, EndJob}
use Rattle.hl_media.specs.declared.job.JobKind.TheVariants.{Copy}
use Rattle.hl_model.specs.Shelves.{IsHomeSlot, JobOut}
use Rattle.hl_model.specs.Site.{SiteState}

-- one line reads as these bytes, and all others as before
pub record IsLineWritten (line : ℕ) (bytes : List ℕ) (before after : ℕ → List ℕ) : Type 0 where
  pub here : after line ≡ bytes
  pub others : (other : ℕ) → other ≢ line → after other ≡ before other

-- a job that is bound writes its buffer into its line
abbrev pub BoundLine : SiteEvent → List ℕ → (ℕ → List ℕ) → (ℕ → List ℕ) → Type 0
BoundLine (EndJob job) buffer before after = IsLineWritten job.note.line buffer before after
BoundLine event buffer before after = (line : ℕ) → after line ≡ before line

-- A staging writes its segment, and a fetch that is bound its buffer; no other line reads otherwise.
abbrev pub LinesFollow : SiteEvent → SiteAnswer → List ℕ → List ℕ → (ℕ → List ℕ) → (ℕ → List ℕ) → Type 0
LinesFollow event (answers.Staged blocks volume slot line) segment buffer before after = IsLineWritten line segment before after
LinesFollow event answers.Bound segment buffer before after = BoundLine event buffer before after
LinesFollow event answer segment buffer before after = (line : ℕ) → after line ≡ before line

-- a segment that is home now is its job's buffer in each content that a stop may leave of its slot
abbrev pub CopyFollows : SiteEvent → SiteAnswer → List ℕ → (ℕ → List ℕ → Type 0) → Type 0
CopyFollows (EndJob job) answers.Home buffer may = (bytes : List ℕ) → may job.note.tseg bytes → bytes ≡ buffer
CopyFollows event answer buffer may = Unit {0}

-- what the devices did in the step
pub record Follow (may may_after : ℕ → List ℕ → Type 0) (before after : ℕ → List ℕ) (segment buffer : List ℕ) (s : SiteState) (event : SiteEvent) (answer : SiteAnswer) : Type 0 where
  pub homes : (t serial : ℕ) → IsHomeSlot s.slots t serial → (bytes : List ℕ) → may_after t bytes → may t bytes
  pub lines : LinesFollow event answer segment buffer before after
  pub copied : CopyFollows event answer buffer may_after

-- a job that goes out: it isn't carried, and a copy's buffer has its line
pub record GoesOut (answer : SiteAnswer) (before : ℕ → List ℕ) (out : JobOut) : Type 0 where
  pub said : answer ≡ answers.Job out.note
  pub fresh : out.carried ≡ None
  pub buffer : out.note.kind ≡ Copy → out.buffer ≡ before out.note.line

-- the jobs that are held: those of before, and one that goes out
abbrev pub JobsFollow : SiteAnswer → (ℕ → List ℕ) → List JobOut → List JobOut → Type 0
JobsFollow answer before jobs after = (out : JobOut) → Contains after out → Contains jobs out ⊎ GoesOut answer before out

-- the jobs that are held are the site's, and the one that comes back is one of them, with this buffer
abbrev pub AreHeld : SiteState → List JobOut → Type 0
AreHeld s jobs = (out : JobOut) → Contains jobs out → IsOut out.note s.jobs

abbrev pub BringsBack : SiteEvent → List ℕ → List JobOut → Type 0
BringsBack (EndJob job) buffer jobs = Contains jobs (record { note = job.note; carried = job.carried; buffer = buffer })
BringsBack event buffer jobs = Unit {0}
