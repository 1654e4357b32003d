-- Which events may take memory, call a device and write in the log.
use Rattle.std.specs.Prelude.{Bool, true, false, ◌&&◌, not, Option, Some, None, is_some, is_none, is_ok}
use Rattle.hl_tree.specs.declared.call.Call.{Call}
use Rattle.hl_tree.specs.declared.call.Call.TheVariants as calls
use Rattle.hl_addr.specs.Layout.{Layout}
use Rattle.hl_model.specs.Ends.{is_same, is_stale, kept_mark}
use Rattle.hl_model.specs.Events.{SiteEvent, Back, FileCall, Rank, Stage, BeginCopy, BeginFetch, EndJob, Eject, CleanOne, Checkpoint, Post, NextRequest, Settle}
use Rattle.hl_model.specs.Site.{SiteState}
use Rattle.hl_model.specs.Stagings.{stage}
use Rattle.hl_media.specs.declared.job.Carried.{Carried}
use Rattle.hl_media.specs.declared.job.JobKind.{JobKind}
use Rattle.hl_media.specs.declared.job.Carried.TheVariants.{Done, EndOfMedium, Fault}
use Rattle.hl_media.specs.declared.job.JobKind.TheVariants.{Copy, Fetch}

-- a call that changes files, or writes them out
abbrev pub call_writes : Call → Bool
call_writes (calls.Read path at len) = false
call_writes (calls.Stat path) = false
call_writes (calls.List path) = false
call_writes call = true

-- a transfer that met no fault
abbrev pub is_moved : Option Carried → Bool
is_moved None = false
is_moved (Some (Fault faults)) = false
is_moved (Some Done) = true
is_moved (Some EndOfMedium) = true

abbrev pub is_copy : JobKind → Bool
is_copy Copy = true
is_copy Fetch = false

module _ (g : Layout) (s : SiteState) where
  -- a stopped site does nothing but look after requests and jobs that come back
  abbrev pub goes_on_with : SiteEvent → Bool
  goes_on_with (Post t keep) = true
  goes_on_with NextRequest = true
  goes_on_with (Settle number) = true
  goes_on_with event = is_none s.stopped

  -- what came back is taken in: it was moved, and its slot still holds its serial
  abbrev pub is_taken_in : Back → Bool
  is_taken_in job = is_moved job.carried && not (is_stale g s job)

  -- an ejection takes no memory, nor does a job that comes back as it went
  abbrev pub takes_memory : SiteEvent → Bool
  takes_memory (EndJob job) = is_some job.carried
  takes_memory (Eject line) = false
  takes_memory event = true

  -- units, checkpoints and passes; a staging that is refused writes none
  abbrev pub writes_log : SiteEvent → Bool
  writes_log (FileCall now call) = call_writes call
  writes_log (Stage paths) = is_ok (stage g s paths)
  writes_log (EndJob job) = is_copy job.note.kind && is_taken_in job
  writes_log CleanOne = true
  writes_log Checkpoint = true
  writes_log event = false

  -- a fetch's line is written where its segment has the serial and the digest that it should
  abbrev pub is_written : JobKind → Back → Bool
  is_written Copy job = true
  is_written Fetch job = is_same g s (kept_mark g s job) job.found

  -- those, and the line of a fetch that is bound
  abbrev pub writes_disk : SiteEvent → Bool
  writes_disk (EndJob job) = is_taken_in job && is_written job.note.kind job
  writes_disk event = writes_log event

  -- those, and what reads nodes or a line
  abbrev pub calls_device : SiteEvent → Bool
  calls_device (FileCall now call) = true
  calls_device (Rank now count) = true
  calls_device (Stage paths) = true
  calls_device BeginCopy = true
  calls_device (BeginFetch path block) = true
  calls_device event = writes_disk event

  -- want of memory, a failed call, a failed write, and a log that is full
  abbrev pub may_want : SiteEvent → Bool
  may_want event = goes_on_with event && takes_memory event

  abbrev pub may_fail : SiteEvent → Bool
  may_fail event = is_none s.stopped && calls_device event

  abbrev pub may_break : SiteEvent → Bool
  may_break event = is_none s.stopped && writes_disk event

  abbrev pub may_write : SiteEvent → Bool
  may_write event = is_none s.stopped && writes_log event
