-- The site that a mount gives, and the shelf that it opens with.
use Rattle.std.specs.Prelude.{◌≡◌, ℕ, ◌-◌, ◌<◌, ◌≤◌, Bool, true, false, List, [], map, length, sum, get_or, position, Option, Some, None}
use Rattle.std.specs.List.{range_with_len}
use Rattle.std.specs.FinMap.{get}
use Rattle.hl_addr.specs.Layout.{Layout}
use Rattle.hl_tseg.specs.Slots.{serial_of}
use Rattle.hl_tseg.specs.declared.slot.Slot.{Slot}
use Rattle.hl_tseg.specs.declared.slot.Slot.TheVariants.{Free, Staged}
use Rattle.hl_placed.specs.Blocks.{Shelf}
use Rattle.hl_placed.specs.Placed.{PlacedTree}
use Rattle.hl_model.specs.InSlots.{IsInSlot}
use Rattle.hl_lines.specs.declared.state.LineState.{LineState}
use Rattle.hl_lines.specs.declared.state.LineState.TheVariants.{Empty, Staging}
use Rattle.hl_lines.specs.Lines.{is}
use Rattle.hl_model.specs.Lines.{count_held, staged_line}
use Rattle.hl_model.specs.Shelves.{IsHomeSlot}
use Rattle.hl_model.specs.Site.{SiteState}
use Rattle.hl_model.specs.Steps.{State}

-- what the tables of an image say: the slots, which volumes are full, and the next tertiary serial
pub record OpeningTables : Type 0 where
  pub slots : List Slot
  pub full : List Bool
  pub next_serial : ℕ

abbrev pub line_of_slot : Option ℕ → LineState
line_of_slot None = Empty
line_of_slot (Some t) = Staging t

-- the line of a slot that waits for its copy is staging, and all others are empty
abbrev pub opening_lines : Layout → List Slot → List LineState
opening_lines g slots = map (λ line. line_of_slot (position (λ slot. is (staged_line slot) line) slots)) (range_with_len 0 g.lines)

-- no job, no request, no stop; the rack's counts are as they stand
unfoldable pub mounted : Layout → PlacedTree → OpeningTables → List ℕ → SiteState
mounted g tree tables counts = record {
  tree = tree;
  slots = tables.slots;
  full = tables.full;
  lines = opening_lines g tables.slots;
  order = [];
  jobs = [];
  requests = [];
  next_serial = tables.next_serial;
  next_job = 1;
  next_request = 1;
  counts = counts;
  stopped = None;
}

-- The state that a mount gives, whatever its log holds: no segment was cleaned since the newest record, nothing is dirty, and
-- no pass was left.
pub record IsMounted (g : Layout) (tree : PlacedTree) (tables : OpeningTables) (counts : List ℕ) (s : State) : Type 0 where
  pub site : s.site ≡ mounted g tree tables counts
  pub cleaned : s.log.cleaned ≡ []
  pub dirty : s.log.dirty ≡ 0
  pub tidy : s.log.tidy ≡ true
  pub ran : s.log.left ≡ false

-- Tables that a site can be mounted from: a slot for each number and a mark for each volume, staged slots with lines that
-- are there, no two with one line, at most C - 12; no two slots with one serial, and each below the next one.
pub record AreOpeningTables (g : Layout) (tables : OpeningTables) : Type 0 where
  pub slots : length tables.slots ≡ sum g.volumes
  pub full : length tables.full ≡ length g.volumes
  pub there : (t line : ℕ) → staged_line (get_or tables.slots t Free) ≡ Some line → line < g.lines
  pub one_line : (t u line : ℕ) → staged_line (get_or tables.slots t Free) ≡ Some line → staged_line (get_or tables.slots u Free) ≡ Some line → t ≡ u
  pub few : count_held (opening_lines g tables.slots) ≤ g.lines - 12
  pub one_slot : (t u serial : ℕ) → serial_of (get_or tables.slots t Free) ≡ Some serial → serial_of (get_or tables.slots u Free) ≡ Some serial → t ≡ u
  pub below : (t serial : ℕ) → serial_of (get_or tables.slots t Free) ≡ Some serial → serial < tables.next_serial

-- The shelf that a mount opens with: each slot that is home with what the slot holds, each that waits for its copy with
-- what its line holds, and no more.
pub record IsOpeningShelf (slot_bytes line_bytes : ℕ → List ℕ) (slots : List Slot) (shelf : Shelf) : Type 0 where
  pub homes : (t serial : ℕ) → IsHomeSlot slots t serial → get shelf serial ≡ Some (slot_bytes t)
  pub staged : (t line serial : ℕ) → get_or slots t Free ≡ Staged line serial → get shelf serial ≡ Some (line_bytes line)
  pub no_more : (serial : ℕ) (bytes : List ℕ) → get shelf serial ≡ Some bytes → IsInSlot slots serial
