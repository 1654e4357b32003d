-- How a file call is served that needs segments.
use Rattle.std.specs.Prelude.{◌≡◌, ◌≢◌, ℕ, ◌==◌, nat_le, if◌then◌else◌, Bool, true, false, List, [], ◌∷◌, ◌++◌, find, Option, Some, None}
use Rattle.hl_addr.specs.Layout.{Layout}
use Rattle.hl_addr.specs.Slots.{volume_of}
use Rattle.hl_script.specs.declared.said.Said.{Said}
use Rattle.hl_tree.specs.declared.call.Call.{Call}
use Rattle.hl_media.specs.declared.job.JobNote.{JobNote}
use Rattle.hl_model.specs.Answers.{SiteAnswer}
use Rattle.hl_model.specs.Answers as answers
use Rattle.hl_model.specs.Events.{FileCall, BeginNeed}
use Rattle.hl_model.specs.SaidLines.{said_of}
use Rattle.hl_model.specs.Worlds.{Asks, EndsJob, HeldJob, WorldState}

-- answers of a step on the way that end the call's line
abbrev pub ends_line : SiteAnswer → Bool
ends_line answers.Eio = true
ends_line answers.LogFull = true
ends_line answers.Memory = true
ends_line (answers.Stopped faults) = true
ends_line answer = false

-- of two jobs that with the lower number
abbrev pub lower_of_two : List HeldJob → Option HeldJob
lower_of_two (one ∷ other ∷ []) = Some (if nat_le one.note.number other.note.number then one else other)
lower_of_two held = None

abbrev pub or_lower : Option HeldJob → List HeldJob → Option HeldJob
or_lower (Some job) held = Some job
or_lower None held = lower_of_two held

-- what a fetch of t waits for: the job that has t's volume, or else, where two are out, that with the lower number
abbrev pub in_the_way : Layout → ℕ → List HeldJob → Option HeldJob
in_the_way g t held = or_lower (find (λ (job : HeldJob). job.note.volume == volume_of g.volumes t) held) held

-- Jobs that are in the way of a fetch of t are ended, one after another, until none is or an answer ends the line.
pub data MakesRoom (g : Layout) (t : ℕ) : WorldState → Option SiteAnswer → WorldState → Type 0 where
  IsFree : (w : WorldState) → in_the_way g t w.held ≡ None → MakesRoom g t w None w
  EndsOne : (w mid after : WorldState) (job : HeldJob) (answer : SiteAnswer) (end : Option SiteAnswer)
      → in_the_way g t w.held ≡ Some job → EndsJob g w job answer mid → ends_line answer ≡ false
      → MakesRoom g t mid end after → MakesRoom g t w end after
  BreaksOff : (w after : WorldState) (job : HeldJob) (answer : SiteAnswer)
      → in_the_way g t w.held ≡ Some job → EndsJob g w job answer after → ends_line answer ≡ true
      → MakesRoom g t w (Some answer) after

-- The site said that it needs t, and what was in the way of a fetch is ended.
pub record NeedsSegment (g : Layout) (now : ℕ) (call : Call) (t : ℕ) (w : WorldState) (end : Option SiteAnswer)
    (after : WorldState) : Type 0 where
  pub mid : WorldState
  pub asks : Asks g w (FileCall now call) (answers.Needs t) mid
  pub room : MakesRoom g t mid end after

-- The segment is fetched, by a job of its own, whose end is answered so.
pub record Fetches (g : Layout) (t : ℕ) (keep : List ℕ) (w : WorldState) (answer : SiteAnswer) (after : WorldState) : Type 0 where
  pub note : JobNote
  pub mid : WorldState
  pub begins : Asks g w (BeginNeed t keep) (answers.Job note) mid
  pub ends : EndsJob g mid (record { note = note; carried = None }) answer after

-- A file call that needed these segments before: it is answered; or it needs another, which is fetched or was bound by a job
-- in the way, and is made again; or a step on the way ends its line.
pub data ServesCall (g : Layout) (now : ℕ) (call : Call) : List ℕ → WorldState → Said → WorldState → Type 0 where
  Answers : (keep : List ℕ) (w after : WorldState) (answer : SiteAnswer) (said : Said)
      → Asks g w (FileCall now call) answer after → said_of answer ≡ Some said → ServesCall g now call keep w said after
  Blocked : (keep : List ℕ) (w after : WorldState) (t : ℕ) (answer : SiteAnswer) (said : Said)
      → NeedsSegment g now call t w (Some answer) after → said_of answer ≡ Some said
      → ServesCall g now call keep w said after
  Brought : (keep : List ℕ) (w room mid after : WorldState) (t : ℕ) (said : Said)
      → NeedsSegment g now call t w None room → Asks g room (BeginNeed t keep) answers.Here mid
      → ServesCall g now call (keep ++ t ∷ []) mid said after → ServesCall g now call keep w said after
  Fetched : (keep : List ℕ) (w room mid after : WorldState) (t : ℕ) (said : Said)
      → NeedsSegment g now call t w None room → Fetches g t keep room answers.Bound mid
      → ServesCall g now call (keep ++ t ∷ []) mid said after → ServesCall g now call keep w said after
  Failed : (keep : List ℕ) (w room after : WorldState) (t : ℕ) (answer : SiteAnswer) (said : Said)
      → NeedsSegment g now call t w None room → Fetches g t keep room answer after → answer ≢ answers.Bound
      → said_of answer ≡ Some said → ServesCall g now call keep w said after
  Refused : (keep : List ℕ) (w room after : WorldState) (t : ℕ) (answer : SiteAnswer) (said : Said)
      → NeedsSegment g now call t w None room → Asks g room (BeginNeed t keep) answer after → ends_line answer ≡ true
      → said_of answer ≡ Some said → ServesCall g now call keep w said after
