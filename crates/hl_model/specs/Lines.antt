-- Lines and slots of a site.
use Rattle.std.specs.Prelude.{ℕ, Bool, true, false, ◌&&◌, ◌==◌, not, List, filter, find, position, length, get_or, unwrap_or, Option, Some, None}
use Rattle.std.specs.List.{range_with_len, list_any}
use Rattle.hl_addr.specs.Layout.{Layout}
use Rattle.hl_addr.specs.Slots.{volume_of}
use Rattle.hl_tseg.specs.Slots.{is_free, serial_of}
use Rattle.hl_tseg.specs.declared.slot.Slot.{Slot}
use Rattle.hl_tseg.specs.declared.slot.Slot.TheVariants.{Free, Staged, Home, Spoilt}
use Rattle.hl_media.specs.declared.job.JobNote.{JobNote}
use Rattle.hl_lines.specs.declared.state.LineState.{LineState}
use Rattle.hl_lines.specs.Lines.{is, is_held}
use Rattle.hl_model.specs.Site.{SiteState}

-- THE LINES THAT MAY NOT BE DROPPED

abbrev pub count_held : List LineState → ℕ
count_held lines = length (filter is_held lines)

-- SLOTS

-- the line in which the segment of a slot waits for its copy
abbrev pub staged_line : Slot → Option ℕ
staged_line Free = None
staged_line (Staged line serial) = Some line
staged_line (Home serial) = None
staged_line Spoilt = None

abbrev pub is_home : Slot → Bool
is_home Free = false
is_home (Staged line serial) = false
is_home (Home serial) = true
is_home Spoilt = false

-- the slot that has a serial; the number past the last where none has it
abbrev pub slot_with : List Slot → ℕ → ℕ
slot_with slots serial = unwrap_or (position (λ slot. is (serial_of slot) serial) slots) (length slots)

-- the first free slot of the lowest volume that isn't full and has one
abbrev pub next_free : Layout → List Slot → List Bool → Option ℕ
next_free g slots full =
    find (λ t. is_free (get_or slots t Spoilt) && not (get_or full (volume_of g.volumes t) false))
    (range_with_len 0 (length slots))

-- THE ORDER OF CLEAN LINES, AND LINES IN JOBS

abbrev pub among : ℕ → List ℕ → Bool
among n ns = list_any (λ other. other == n) ns

abbrev pub job_of_line : SiteState → ℕ → Bool
job_of_line s line = list_any (λ (job : JobNote). job.line == line) s.jobs
