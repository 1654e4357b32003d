-- The ends of transfers, and ejection.
use Rattle.std.specs.Prelude.{ℕ, Bool, true, ◌&&◌, ◌==◌, not, if◌then◌else◌, List, map, filter, get_or, set, ok_or, Option, Some, None, Ok, Err}
use Rattle.std.specs.Ordering.{eq_by_cmp, nat_cmp}
use Rattle.std.specs.Cmp.Lexicographic.{slice_cmp}
use Rattle.hl_addr.specs.Layout.{Layout}
use Rattle.hl_tree.specs.Refusals.{◌>>=◌}
use Rattle.hl_media.specs.declared.mark.Mark.{Mark}
use Rattle.hl_tseg.specs.declared.slot.Slot.TheVariants.{Free, Staged, Home, Spoilt}
use Rattle.hl_model.specs.Answers as answers
use Rattle.hl_model.specs.Events.{Back}
use Rattle.hl_addr.specs.Slots.{volume_of, place_of}
use Rattle.hl_tseg.specs.Slots.{serial_of}
use Rattle.hl_lines.specs.Lines.{is, all_but, used}
use Rattle.hl_model.specs.Lines.{job_of_line, next_free}
use Rattle.hl_model.specs.Site.{SiteState, RequestOutcome, Evol, Ebad, Request}
use Rattle.hl_model.specs.Ruled.{Ruled}
use Rattle.hl_media.specs.declared.job.Carried.{Carried}
use Rattle.hl_media.specs.declared.job.JobKind.{JobKind}
use Rattle.hl_media.specs.declared.job.Carried.TheVariants.{Done, EndOfMedium, Fault}
use Rattle.hl_media.specs.declared.job.JobKind.TheVariants.{Copy, Fetch}
use Rattle.hl_lines.specs.declared.state.LineState.{LineState}
use Rattle.hl_lines.specs.declared.state.LineState.TheVariants.{Empty, Clean, Staging, Stuck, Aside}

module _ (g : Layout) (s : SiteState) where
  -- a fetch's line is empty, and a copy's is still staging
  abbrev pub lines_left : JobKind → ℕ → List LineState
  lines_left Copy line = s.lines
  lines_left Fetch line = set s.lines line Empty

  -- The job is over and its volume back. It is taken off by its volume, of which no other job is out.
  abbrev pub over : Back → SiteState
  over job = record s {
    jobs = filter (λ other. not (other.volume == job.note.volume)) s.jobs;
    counts = set s.counts job.note.volume job.faults;
    lines = lines_left job.note.kind job.note.line;
  }

  -- what a fetch met is noted in each request for its segment that was given and isn't settled
  abbrev pub note_in : ℕ → RequestOutcome → Request → Request
  note_in t how request = if request.tseg == t && (request.given && not request.settled) then record request { noted = Some how } else request

  abbrev pub noted : JobKind → ℕ → RequestOutcome → SiteState → SiteState
  noted Copy t how after = after
  noted Fetch t how after = record after { requests = map (note_in t how) after.requests }

  abbrev pub home : Back → Ruled
  home job = Ok (
    answers.Home,
    record (over job) {
      slots = set s.slots job.note.tseg (Home job.note.serial);
      lines = set s.lines job.note.line (Clean job.note.tseg);
      order = used job.note.line s.order;
    },
  )

  -- the segment goes to another slot, with its line and its serial, or is stuck
  abbrev pub moved_to : Back → List Bool → Option ℕ → Ruled
  moved_to job full None = Ok (answers.Stuck, record (over job) { full = full; lines = set s.lines job.note.line (Stuck job.note.tseg) })
  moved_to job full (Some t) = Ok (
    answers.Moved (volume_of g.volumes t) (place_of g.volumes t),
    record (over job) {
      full = full;
      slots = set (set s.slots job.note.tseg Spoilt) t (Staged job.note.line job.note.serial);
      lines = set s.lines job.note.line (Staging t);
    },
  )

  abbrev pub at_end_of_medium : Back → List Bool → Ruled
  at_end_of_medium job full = moved_to job full (next_free g s.slots full)

  abbrev pub is_same : Mark → Mark → Bool
  is_same one other = one.serial == other.serial && eq_by_cmp (slice_cmp nat_cmp) one.digest other.digest

  abbrev pub kept_mark : Back → Mark
  kept_mark job = record { serial = job.note.serial; digest = job.digest }

  abbrev pub bound : Back → Ruled
  bound job = if is_same (kept_mark job) job.found
      then Ok (answers.Bound, record (over job) { lines = set s.lines job.note.line (Clean job.note.tseg); order = used job.note.line s.order })
      else Ok (answers.Ebad (kept_mark job) job.found, noted Fetch job.note.tseg (Ebad job.note.tseg (kept_mark job) job.found) (over job))

  -- a transfer that met no fault
  abbrev pub arrived : Back → JobKind → Carried → Ruled
  arrived job Copy Done = home job
  arrived job Copy EndOfMedium = at_end_of_medium job (set s.full job.note.volume true)
  arrived job Fetch Done = bound job
  -- these two don't come
  arrived job Fetch EndOfMedium = Ok (answers.Stale, over job)
  arrived job kind (Fault faults) = Ok (answers.Stale, over job)

  -- the slot doesn't hold the job's serial any more
  abbrev pub is_stale : Back → Bool
  is_stale job = not (is (serial_of (get_or s.slots job.note.tseg Free)) job.note.serial)

  abbrev pub end_carried : Back → Carried → Ruled
  end_carried job (Fault faults) = Ok (answers.Evol, noted job.note.kind job.note.tseg (Evol job.note.tseg job.faults) (over job))
  end_carried job Done = if is_stale job then Ok (answers.Stale, over job) else arrived job job.note.kind Done
  end_carried job EndOfMedium = if is_stale job then Ok (answers.Stale, over job) else arrived job job.note.kind EndOfMedium

  -- on a stopped site the job is over all the same
  abbrev pub end_running : Back → Carried → Option ℕ → Ruled
  end_running job carried None = end_carried job carried
  end_running job carried (Some faults) = Ok (answers.Stopped faults, over job)

  unfoldable pub end_job : Back → Ruled
  end_job job = do
    carried ← ok_or job.carried answers.Unmoved
    end_running job carried s.stopped

  -- EJECTION

  abbrev pub eject_line : ℕ → LineState → Ruled
  eject_line line (Staging t) = Err (if job_of_line s line then answers.InJob else answers.Staging)
  eject_line line (Stuck t) = Err answers.Staging
  eject_line line Aside = Err answers.InJob
  eject_line line Empty = Err answers.Empty
  eject_line line (Clean t) = Ok (answers.Ejected, record s { lines = set s.lines line Empty; order = all_but line s.order })

  unfoldable pub eject : ℕ → Ruled
  eject line = eject_line line (get_or s.lines line Empty)
