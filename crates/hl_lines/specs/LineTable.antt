-- A table of lines as a plain list of what each one holds, with the clean ones in order of use.
use Rattle.std.specs.Prelude.{◌≡◌, ◌≢◌, ℕ, List, [], map, get_or, replicate, slice_set, Some, Contains, true}
use Rattle.std.specs.List.{AllPairs}
use Rattle.hl_lines.specs.Lines.{segment_of, is_clean, homed, stuck, unstuck, line_with, all_but, used, touched}
use Rattle.hl_lines.specs.declared.state.LineState.{LineState}
use Rattle.hl_lines.specs.declared.state.LineState.TheVariants.{Empty, Clean, Staging, Stuck, Aside}

-- what each line holds, and the clean lines, the least recently used first
pub record Lines : Type 0 where
  pub states : List LineState
  pub order : List ℕ

-- what a line holds; one that isn't there is empty
abbrev pub state_at : Lines → ℕ → LineState
state_at t line = get_or t.states line Empty

-- a line may be written for a new segment, set aside, or given up
abbrev pub MayBeStaged : LineState → Type 0
MayBeStaged Empty = Unit {0}
MayBeStaged (Clean tseg) = Unit {0}
MayBeStaged (Staging tseg) = Unit {0}
MayBeStaged (Stuck tseg) = ⊥
MayBeStaged Aside = ⊥

abbrev pub MayBeTaken : LineState → Type 0
MayBeTaken Empty = Unit {0}
MayBeTaken (Clean tseg) = Unit {0}
MayBeTaken (Staging tseg) = ⊥
MayBeTaken (Stuck tseg) = ⊥
MayBeTaken Aside = ⊥

abbrev pub MayBeReleased : LineState → Type 0
MayBeReleased Empty = ⊥
MayBeReleased (Clean tseg) = Unit {0}
MayBeReleased (Staging tseg) = ⊥
MayBeReleased (Stuck tseg) = ⊥
MayBeReleased Aside = Unit {0}

-- a line is no victim: it is staging, stuck or set aside, or its segment is one of keep
abbrev pub IsTaken : List ℕ → LineState → Type 0
IsTaken keep Empty = ⊥
IsTaken keep (Clean tseg) = Contains keep tseg
IsTaken keep (Staging tseg) = Unit {0}
IsTaken keep (Stuck tseg) = Unit {0}
IsTaken keep Aside = Unit {0}

-- no other line holds the segment
abbrev pub NoOther : Lines → ℕ → ℕ → Type 0
NoOther t line tseg = (other : ℕ) → other ≢ line → segment_of (state_at t other) ≢ Some tseg

-- the order has the clean lines, each once, and no two lines hold one segment
pub record AreLines (t : Lines) : Type 0 where
  pub clean : (line : ℕ) → Contains t.order line → is_clean (state_at t line) ≡ true
  pub all : (line : ℕ) → is_clean (state_at t line) ≡ true → Contains t.order line
  pub once : AllPairs (λ line other. line ≢ other) t.order
  pub apart : (line tseg : ℕ) → segment_of (state_at t line) ≡ Some tseg → NoOther t line tseg

-- so many empty lines
abbrev pub fresh : ℕ → Lines
fresh lines = record { states = replicate lines Empty; order = [] }

-- the clean line of a segment is used
abbrev pub with_touched : Lines → ℕ → Lines
with_touched t tseg = record t { order = touched t.states t.order (line_with t.states tseg) }

-- a line has been fetched
abbrev pub with_bound : Lines → ℕ → ℕ → Lines
with_bound t tseg line = record { states = slice_set t.states line (Clean tseg); order = used line t.order }

-- a line has been written for a segment that no volume has yet
abbrev pub with_staged : Lines → ℕ → ℕ → Lines
with_staged t tseg line = record { states = slice_set t.states line (Staging tseg); order = all_but line t.order }

-- a line's segment has come to its volume
abbrev pub with_homed : Lines → ℕ → Lines
with_homed t line = record { states = slice_set t.states line (homed (state_at t line)); order = used line t.order }

-- a line waits for a fetch
abbrev pub with_aside : Lines → ℕ → Lines
with_aside t line = record { states = slice_set t.states line Aside; order = all_but line t.order }

-- a line holds nothing
abbrev pub with_empty : Lines → ℕ → Lines
with_empty t line = record { states = slice_set t.states line Empty; order = all_but line t.order }

-- a line's segment finds no slot
abbrev pub with_stuck : Lines → ℕ → Lines
with_stuck t line = record t { states = slice_set t.states line (stuck (state_at t line)) }

-- each segment that found no slot may try again
abbrev pub with_unstuck : Lines → Lines
with_unstuck t = record t { states = map unstuck t.states }
