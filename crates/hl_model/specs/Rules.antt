-- The rules of a site: what each event is answered and what it leaves, where no device fails and memory is there.
use Rattle.std.specs.Prelude.{ℕ, take, Option, Some, None, Ok, Err}
use Rattle.hl_addr.specs.Layout.{Layout}
use Rattle.hl_placed.specs.Blocks.{Shelf}
use Rattle.hl_placed.specs.Ranking.{ranked}
use Rattle.hl_model.specs.Answers as answers
use Rattle.hl_model.specs.Begins.{begin_copy, begin_fetch, begin_need}
use Rattle.hl_model.specs.Ends.{end_job, eject}
use Rattle.hl_model.specs.Events.{SiteEvent, FileCall, Rank, Stage, BeginCopy, BeginFetch, BeginNeed, EndJob, Eject, CleanOne, Checkpoint, Post, NextRequest, Settle, Look}
use Rattle.hl_model.specs.FileCalls.{file_call}
use Rattle.hl_model.specs.Cleaning.{LogUse, clean_one}
use Rattle.hl_model.specs.Requests.{post, next_one, settle, look}
use Rattle.hl_model.specs.Site.{SiteState}
use Rattle.hl_model.specs.Stagings.{stage}
use Rattle.hl_model.specs.Ruled.{Ruled}

-- a stopped site answers so first of all
abbrev pub running : Option ℕ → Ruled → Ruled
running None told = told
running (Some faults) told = Err (answers.Stopped faults)

module _ (g : Layout) (s : SiteState) where
  -- each event; the log is as the step's first unit and its passes leave it
  abbrev pub rules : LogUse → Shelf → SiteEvent → Ruled
  rules log shelf (FileCall now call) = running s.stopped (file_call g s shelf now call)
  rules log shelf (Rank now count) = running s.stopped (Ok (answers.Ranked (take count (ranked now s.tree)), s))
  rules log shelf (Stage paths) = running s.stopped (stage g s paths)
  rules log shelf BeginCopy = running s.stopped (begin_copy g s)
  rules log shelf (BeginFetch path block) = running s.stopped (begin_fetch g s path block)
  rules log shelf (BeginNeed t keep) = running s.stopped (begin_need g s t keep)
  rules log shelf (EndJob job) = end_job g s job
  rules log shelf (Eject line) = running s.stopped (eject g s line)
  rules log shelf CleanOne = running s.stopped (clean_one g s log)
  rules log shelf Checkpoint = running s.stopped (Ok (answers.Checkpointed, s))
  rules log shelf (Post t keep) = post g s t keep
  rules log shelf NextRequest = next_one g s
  rules log shelf (Settle number) = settle g s number
  rules log shelf (Look number) = running s.stopped (look g s number)
