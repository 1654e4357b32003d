-- The beginning of transfers.
use Rattle.std.specs.Prelude.{ℕ, Bool, ◌&&◌, ◌||◌, ◌==◌, nat_le, not, List, [], ◌∷◌, ◌++◌, find, length, get_or, set, ok_or, unwrap_or, Option, Some, None, Result, Ok, Err, is_some, is_none}
use Rattle.std.specs.List.{range_with_len}
use Rattle.hl_addr.specs.Layout.{Layout}
use Rattle.hl_tree.specs.Refusals.{◌>>=◌, refused_if}
use Rattle.hl_tree.specs.Tree.{content_at}
use Rattle.hl_tseg.specs.declared.slot.Slot.TheVariants.{Free}
use Rattle.hl_placed.specs.Blocks.{Block, Hole, Away, file_block}
use Rattle.hl_placed.specs.Blocks as blocks
use Rattle.hl_model.specs.Answers.{SiteAnswer}
use Rattle.hl_model.specs.Answers as answers
use Rattle.hl_addr.specs.Slots.{volume_of, place_of}
use Rattle.hl_tseg.specs.Slots.{serial_of}
use Rattle.hl_lines.specs.Lines.{segment_of, is_staging, line_with, all_but, victim}
use Rattle.hl_model.specs.Lines.{job_of_line, slot_with}
use Rattle.hl_model.specs.Site.{SiteState, next}
use Rattle.hl_model.specs.Ruled.{Ruled, by_rules}
use Rattle.hl_media.specs.declared.job.JobKind.{JobKind}
use Rattle.hl_media.specs.declared.job.JobNote.{JobNote}
use Rattle.hl_media.specs.declared.job.JobKind.TheVariants.{Copy, Fetch}
use Rattle.hl_lines.specs.declared.state.LineState.TheVariants.{Empty, Aside}

module _ (g : Layout) (s : SiteState) where
  abbrev pub volume_there : ℕ → Option JobNote → Result (Unit {0}) SiteAnswer
  volume_there volume None = Ok tt
  volume_there volume (Some job) = Err (answers.Busy volume job.number)

  -- the volume is there, and a drive is free
  abbrev pub drive_free : ℕ → Result (Unit {0}) SiteAnswer
  drive_free volume = do
    _ ← volume_there volume (find (λ job. job.volume == volume) s.jobs)
    refused_if (nat_le 2 (length s.jobs)) answers.Drives

  abbrev pub job_for : JobKind → ℕ → ℕ → ℕ → JobNote
  job_for kind t serial line = record { number = s.next_job; kind = kind; tseg = t; slot = place_of g.volumes t; serial = serial; line = line; volume = volume_of g.volumes t; faults = get_or s.counts (volume_of g.volumes t) 0 }

  abbrev pub serial_at : ℕ → ℕ
  serial_at t = unwrap_or (serial_of (get_or s.slots t Free)) 0

  -- the lowest staging line that is in no job
  abbrev pub next_copy : Option ℕ
  next_copy = find (λ line. is_staging (get_or s.lines line Empty) && not (job_of_line s line)) (range_with_len 0 (length s.lines))

  abbrev pub copy_of : ℕ → ℕ → Ruled
  copy_of line t = do
    _ ← drive_free (volume_of g.volumes t)
    Ok (
      answers.Job (job_for Copy t (serial_at t) line),
      record s {
        jobs = s.jobs ++ job_for Copy t (serial_at t) line ∷ [];
        next_job = next s.next_job;
      },
    )

  unfoldable pub begin_copy : Ruled
  begin_copy = do
    line ← ok_or next_copy answers.NoneLeft
    copy_of line (unwrap_or (segment_of (get_or s.lines line Empty)) 0)

  -- a fetch of a segment into the line that it may take
  abbrev pub fetch_to : ℕ → ℕ → Ruled
  fetch_to t line = Ok (
    answers.Job (job_for Fetch t (serial_at t) line),
    record s {
      jobs = s.jobs ++ job_for Fetch t (serial_at t) line ∷ [];
      next_job = next s.next_job;
      lines = set s.lines line Aside;
      order = all_but line s.order;
    },
  )

  -- the segment has a line, or there is none to fetch
  abbrev pub needs_no_fetch : ℕ → Bool
  needs_no_fetch t = is_some (line_with s.lines t) || is_none (serial_of (get_or s.slots t Free))

  unfoldable pub begin_need : ℕ → List ℕ → Ruled
  begin_need t keep = do
    _ ← refused_if (needs_no_fetch t) answers.Here
    _ ← drive_free (volume_of g.volumes t)
    line ← ok_or (victim s.lines s.order keep) answers.NoLine
    fetch_to t line

  abbrev pub serial_away : Block → Result ℕ SiteAnswer
  serial_away Hole = Err answers.Here
  serial_away (blocks.Here bytes) = Err answers.Here
  serial_away (Away serial position) = Ok serial

  unfoldable pub begin_fetch : List (List ℕ) → ℕ → Ruled
  begin_fetch path block = do
    file ← by_rules (content_at s.tree path) answers.PathRefused
    serial ← serial_away (file_block file block)
    begin_need (slot_with s.slots serial) []
