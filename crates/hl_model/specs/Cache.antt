-- What holds of the lines, the slots and the jobs of a site between steps.
use Rattle.std.specs.Prelude.{◌≡◌, ℕ, ◌-◌, ◌<◌, ◌≤◌, ◌⊎◌, true, false, List, [], ◌∷◌, length, sum, get_or, Some}
use Rattle.hl_addr.specs.Layout.{Layout}
use Rattle.hl_addr.specs.Slots.{volume_of, place_of}
use Rattle.hl_tseg.specs.Slots.{serial_of}
use Rattle.hl_tseg.specs.declared.slot.Slot.{Slot}
use Rattle.hl_tseg.specs.declared.slot.Slot.TheVariants.{Free, Staged, Home}
use Rattle.hl_media.specs.declared.job.JobNote.{JobNote}
use Rattle.hl_media.specs.declared.job.JobKind.{JobKind}
use Rattle.hl_media.specs.declared.job.JobKind.TheVariants.{Copy, Fetch}
use Rattle.hl_lines.specs.declared.state.LineState.{LineState}
use Rattle.hl_lines.specs.declared.state.LineState.TheVariants.{Empty, Staging, Aside}
use Rattle.hl_lines.specs.Lines.{clean_segment, held_segment, is_aside, is_clean}
use Rattle.hl_model.specs.Lines.{among, count_held, is_home, staged_line}
use Rattle.hl_model.specs.Site.{SiteState}

-- THE ORDER OF CLEAN LINES

-- each line in the order is clean
abbrev pub AreCleanLines : List LineState → List ℕ → Type 0
AreCleanLines lines [] = Unit {0}
AreCleanLines lines (line ∷ order) = (is_clean (get_or lines line Empty) ≡ true) × AreCleanLines lines order

-- no number stands twice
abbrev pub AreOnce : List ℕ → Type 0
AreOnce [] = Unit {0}
AreOnce (n ∷ ns) = (among n ns ≡ false) × AreOnce ns

-- the order has each clean line once, and no other line
pub record IsOrder (lines : List LineState) (order : List ℕ) : Type 0 where
  pub clean : AreCleanLines lines order
  pub all : (line : ℕ) → is_clean (get_or lines line Empty) ≡ true → among line order ≡ true
  pub once : AreOnce order

-- LINES AND SLOTS

-- A line may not be dropped exactly where a slot waits for it, and then holds that slot's segment. The slot of a clean
-- line's segment is home. A segment has one clean line at most, and a serial one slot, and serials are below the next one.
pub record AreMatched (slots : List Slot) (lines : List LineState) (next : ℕ) : Type 0 where
  pub staged : (line t : ℕ) → held_segment (get_or lines line Empty) ≡ Some t → staged_line (get_or slots t Free) ≡ Some line
  pub staging : (line t : ℕ) → staged_line (get_or slots t Free) ≡ Some line → held_segment (get_or lines line Empty) ≡ Some t
  pub homes : (line t : ℕ) → clean_segment (get_or lines line Empty) ≡ Some t → is_home (get_or slots t Free) ≡ true
  pub one_line : (line other t : ℕ) → clean_segment (get_or lines line Empty) ≡ Some t → clean_segment (get_or lines other Empty) ≡ Some t → line ≡ other
  pub one_slot : (t u serial : ℕ) → serial_of (get_or slots t Free) ≡ Some serial → serial_of (get_or slots u Free) ≡ Some serial → t ≡ u
  pub below : (t serial : ℕ) → serial_of (get_or slots t Free) ≡ Some serial → serial < next

-- JOBS

-- the job is one of these
abbrev pub IsOut : JobNote → List JobNote → Type 0
IsOut job [] = ⊥
IsOut job (other ∷ jobs) = (job ≡ other) ⊎ IsOut job jobs

-- the line of a copy is staging for its segment, that of a fetch is set aside
abbrev pub state_in : JobKind → ℕ → LineState
state_in Copy t = Staging t
state_in Fetch t = Aside

-- the slot of a copy waits for its line, that of a fetch is home
abbrev pub slot_in : JobKind → ℕ → ℕ → Slot
slot_in Copy line serial = Staged line serial
slot_in Fetch line serial = Home serial

-- a job has its line, the slot of its segment with its serial, and its volume; no line holds a segment that is fetched
pub record IsJobOf (g : Layout) (slots : List Slot) (lines : List LineState) (job : JobNote) : Type 0 where
  pub line : get_or lines job.line Empty ≡ state_in job.kind job.tseg
  pub slot : get_or slots job.tseg Free ≡ slot_in job.kind job.line job.serial
  pub volume : job.volume ≡ volume_of g.volumes job.tseg
  pub place : job.slot ≡ place_of g.volumes job.tseg
  pub alone : job.kind ≡ Fetch → (line : ℕ) → clean_segment (get_or lines line Empty) ≡ Some job.tseg → ⊥

-- another volume and another line
pub record AreOthers (job other : JobNote) : Type 0 where
  pub volume : other.volume ≡ job.volume → ⊥
  pub line : other.line ≡ job.line → ⊥

-- no two jobs have one volume or one line
abbrev pub AreApart : List JobNote → Type 0
AreApart [] = Unit {0}
AreApart (job ∷ jobs) = ((other : JobNote) → IsOut other jobs → AreOthers job other) × AreApart jobs

-- at most two jobs are out, each with what is its own; a line is set aside for one of them
pub record AreJobs (g : Layout) (slots : List Slot) (lines : List LineState) (jobs : List JobNote) : Type 0 where
  pub each : (job : JobNote) → IsOut job jobs → IsJobOf g slots lines job
  pub aside : (line : ℕ) → is_aside (get_or lines line Empty) ≡ true → (job : JobNote) × IsOut job jobs × (job.line ≡ line)
  pub apart : AreApart jobs
  pub two : length jobs ≤ 2

-- THE WHOLE

-- a state for each line, each slot and each volume of the site
pub record HaveSizes (g : Layout) (s : SiteState) : Type 0 where
  pub lines : length s.lines ≡ g.lines
  pub slots : length s.slots ≡ sum g.volumes
  pub full : length s.full ≡ length g.volumes
  pub counts : length s.counts ≡ length g.volumes

-- at most C - 12 lines may not be dropped
pub record IsCache (g : Layout) (s : SiteState) : Type 0 where
  pub sizes : HaveSizes g s
  pub order : IsOrder s.lines s.order
  pub matched : AreMatched s.slots s.lines s.next_serial
  pub held : count_held s.lines ≤ g.lines - 12
  pub jobs : AreJobs g s.slots s.lines s.jobs
