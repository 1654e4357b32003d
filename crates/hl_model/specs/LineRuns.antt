-- The lines of a script, as steps of one run.
use Rattle.std.specs.Prelude.{◌≡◌, ℕ, ◌==◌, ◌&&◌, ◌||◌, Bool, true, false, List, [], ◌∷◌, find, is_none, is_some, Option, Some, None}
use Rattle.hl_addr.specs.Layout.{Layout}
use Rattle.hl_media.specs.declared.job.Carried.{Carried}
use Rattle.hl_script.specs.Answer.{is_memory}
use Rattle.hl_script.specs.declared.line.Line.{Line}
use Rattle.hl_script.specs.declared.line.Line.TheVariants as line
use Rattle.hl_script.specs.declared.said.Said.{Said}
use Rattle.hl_script.specs.declared.said.Said.TheVariants as said
use Rattle.hl_tree.specs.Rules.{Files, after, reply}
use Rattle.hl_tree.specs.declared.call.Reply.{Reply}
use Rattle.hl_model.specs.Answers.{SiteAnswer}
use Rattle.hl_model.specs.Events.{SiteEvent, Rank, Stage, BeginCopy, BeginFetch, Eject, CleanOne, Checkpoint}
use Rattle.hl_model.specs.Ruled.{limits_of}
use Rattle.hl_model.specs.SaidLines.{said_of, said_carried}
use Rattle.hl_model.specs.Serving.{ServesCall}
use Rattle.hl_model.specs.Worlds.{Asks, Carries, ComesBack, HeldJob, WorldState}

-- a line that is one event
pub record IsOneStep (g : Layout) (w : WorldState) (event : SiteEvent) (answered : Said) (after : WorldState) : Type 0 where
  pub answer : SiteAnswer
  pub asks : Asks g w event answer after
  pub said_is : said_of answer ≡ Some answered

-- the transfer of a job that is out and wasn't carried
abbrev pub MovesJob : WorldState → Option HeldJob → Said → WorldState → Type 0
MovesJob w None answered after = (answered ≡ said.NoJob) × (after ≡ w)
MovesJob w (Some job) answered after = (how : Carried) × Carries w job how after × (answered ≡ said_carried how)

-- a job that is out comes back, carried or not
pub record BringsJob (g : Layout) (w : WorldState) (job : HeldJob) (answered : Said) (after : WorldState) : Type 0 where
  pub answer : SiteAnswer
  pub comes_back : ComesBack g w job.note job.carried answer after
  pub said_is : said_of answer ≡ Some answered

abbrev pub BringsIfOut : Layout → WorldState → Option HeldJob → Said → WorldState → Type 0
BringsIfOut g w None answered after = (answered ≡ said.NoJob) × (after ≡ w)
BringsIfOut g w (Some job) answered after = BringsJob g w job answered after

-- the job with this number that is out, and that which is out and wasn't carried
abbrev pub job_out : ℕ → List HeldJob → Option HeldJob
job_out number held = find (λ (job : HeldJob). job.note.number == number) held

abbrev pub job_to_move : ℕ → List HeldJob → Option HeldJob
job_to_move number held = find (λ (job : HeldJob). job.note.number == number && is_none job.carried) held

-- what a line does at a moment, and what is said of it
abbrev pub DoesLine : Layout → WorldState → Line → ℕ → Said → WorldState → Type 0
DoesLine g w (line.File call) now answered after = ServesCall g now call [] w answered after
DoesLine g w (line.Rank count) now answered after = IsOneStep g w (Rank now count) answered after
DoesLine g w (line.Stage paths) now answered after = IsOneStep g w (Stage paths) answered after
DoesLine g w line.Copy now answered after = IsOneStep g w BeginCopy answered after
DoesLine g w (line.Fetch path block) now answered after = IsOneStep g w (BeginFetch path block) answered after
DoesLine g w (line.Move number) now answered after = MovesJob w (job_to_move number w.held) answered after
DoesLine g w (line.End number) now answered after = BringsIfOut g w (job_out number w.held) answered after
DoesLine g w (line.Eject n) now answered after = IsOneStep g w (Eject n) answered after
DoesLine g w line.Clean now answered after = IsOneStep g w CleanOne answered after
DoesLine g w line.Checkpoint now answered after = IsOneStep g w Checkpoint answered after

-- a line with the moment that the clock told for it
pub record TimedLine : Type 0 where
  pub line : Line
  pub now : ℕ

-- no line follows one for which memory was wanting, nor one that stopped the site
abbrev pub is_last : Said → WorldState → Bool
is_last answered after = is_memory answered || is_some after.state.site.stopped

-- Lines one after another. Of the last of all nothing follows.
pub data LineRun (g : Layout) : WorldState → List TimedLine → List Said → WorldState → Type 0 where
  NoMore : (w : WorldState) → LineRun g w [] [] w
  Next : (w mid after : WorldState) (first : TimedLine) (rest : List TimedLine) (answered : Said) (answers : List Said)
      → DoesLine g w first.line first.now answered mid → is_last answered mid ≡ false
      → LineRun g mid rest answers after → LineRun g w (first ∷ rest) (answered ∷ answers) after
  Last : (w after : WorldState) (first : TimedLine) (rest : List TimedLine) (answered : Said)
      → DoesLine g w first.line first.now answered after → is_last answered after ≡ true
      → LineRun g w (first ∷ rest) (answered ∷ []) after

-- IN PLAIN FILES

-- a file call that was answered by a reply changes the files by the file rules, and nothing else does
abbrev pub files_after : Layout → Files → Line → Said → Files
files_after g files (line.File call) (said.Reply r) = after (limits_of g) files call
files_after g files other answered = files

-- each reply is that of the file rules on the files after the lines before it
abbrev pub IsReplyOf : Layout → Files → Line → Said → Type 0
IsReplyOf g files (line.File call) answered = (r : Reply) → answered ≡ said.Reply r → r ≡ reply (limits_of g) files call
IsReplyOf g files other answered = Unit {0}

abbrev pub files_behind : Layout → Files → List TimedLine → List Said → Files
files_behind g files (first ∷ rest) (answered ∷ answers) =
    files_behind g (files_after g files first.line answered) rest answers
files_behind g files lines answers = files

abbrev pub ArePlain : Layout → Files → List TimedLine → List Said → Type 0
ArePlain g files (first ∷ rest) (answered ∷ answers) =
    IsReplyOf g files first.line answered × ArePlain g (files_after g files first.line answered) rest answers
ArePlain g files lines answers = Unit {0}
