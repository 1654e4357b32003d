-- The lines of the disk that hold segments, and the order in which clean ones were used.
use Rattle.std.specs.Prelude.{ℕ, Bool, true, false, ◌==◌, not, if◌then◌else◌, List, [], ◌∷◌, ◌++◌, filter, find, position, get_or, Option, Some, None}
use Rattle.std.specs.List.{list_any}
use Rattle.hl_lines.specs.declared.state.LineState.{LineState}
use Rattle.hl_lines.specs.declared.state.LineState.TheVariants.{Empty, Clean, Staging, Stuck, Aside}

-- the segment that a line holds
abbrev pub segment_of : LineState → Option ℕ
segment_of Empty = None
segment_of (Clean tseg) = Some tseg
segment_of (Staging tseg) = Some tseg
segment_of (Stuck tseg) = Some tseg
segment_of Aside = None

-- the segment of a line that may be dropped
abbrev pub clean_segment : LineState → Option ℕ
clean_segment Empty = None
clean_segment (Clean tseg) = Some tseg
clean_segment (Staging tseg) = None
clean_segment (Stuck tseg) = None
clean_segment Aside = None

-- the segment of a line that may not be dropped
abbrev pub held_segment : LineState → Option ℕ
held_segment Empty = None
held_segment (Clean tseg) = None
held_segment (Staging tseg) = Some tseg
held_segment (Stuck tseg) = Some tseg
held_segment Aside = None

abbrev pub is_empty : LineState → Bool
is_empty Empty = true
is_empty (Clean tseg) = false
is_empty (Staging tseg) = false
is_empty (Stuck tseg) = false
is_empty Aside = false

abbrev pub is_clean : LineState → Bool
is_clean Empty = false
is_clean (Clean tseg) = true
is_clean (Staging tseg) = false
is_clean (Stuck tseg) = false
is_clean Aside = false

abbrev pub is_staging : LineState → Bool
is_staging Empty = false
is_staging (Clean tseg) = false
is_staging (Staging tseg) = true
is_staging (Stuck tseg) = false
is_staging Aside = false

-- what may not be dropped
abbrev pub is_held : LineState → Bool
is_held Empty = false
is_held (Clean tseg) = false
is_held (Staging tseg) = true
is_held (Stuck tseg) = true
is_held Aside = false

abbrev pub is_aside : LineState → Bool
is_aside Empty = false
is_aside (Clean tseg) = false
is_aside (Staging tseg) = false
is_aside (Stuck tseg) = false
is_aside Aside = true

-- a staging line's segment has come to its volume
abbrev pub homed : LineState → LineState
homed Empty = Empty
homed (Clean tseg) = Clean tseg
homed (Staging tseg) = Clean tseg
homed (Stuck tseg) = Stuck tseg
homed Aside = Aside

-- a staging line's segment finds no slot, and may try again
abbrev pub stuck : LineState → LineState
stuck Empty = Empty
stuck (Clean tseg) = Clean tseg
stuck (Staging tseg) = Stuck tseg
stuck (Stuck tseg) = Stuck tseg
stuck Aside = Aside

abbrev pub unstuck : LineState → LineState
unstuck Empty = Empty
unstuck (Clean tseg) = Clean tseg
unstuck (Staging tseg) = Staging tseg
unstuck (Stuck tseg) = Staging tseg
unstuck Aside = Aside

-- the number is this one
abbrev pub is : Option ℕ → ℕ → Bool
is None number = false
is (Some other) number = other == number

-- the line that holds a segment
abbrev pub line_with : List LineState → ℕ → Option ℕ
line_with lines tseg = position (λ line. is (segment_of line) tseg) lines

-- the order without a line
abbrev pub all_but : ℕ → List ℕ → List ℕ
all_but line order = filter (λ other. not (other == line)) order

-- the order once a line is the most recently used
abbrev pub used : ℕ → List ℕ → List ℕ
used line order = all_but line order ++ line ∷ []

-- the order once the line of a segment is used, where that line is clean
abbrev pub touched : List LineState → List ℕ → Option ℕ → List ℕ
touched lines order None = order
touched lines order (Some line) = if is_clean (get_or lines line Empty) then used line order else order

-- the first, where there is one, and else the second
abbrev pub first_of : Option ℕ → Option ℕ → Option ℕ
first_of None other = other
first_of (Some number) other = Some number

-- the line holds none of these segments
abbrev pub is_spared : List LineState → List ℕ → ℕ → Bool
is_spared lines keep line = not (list_any (is (segment_of (get_or lines line Empty))) keep)

-- the lowest empty line, or else the least recently used clean one whose segment isn't in keep
abbrev pub victim : List LineState → List ℕ → List ℕ → Option ℕ
victim lines order keep = first_of (position is_empty lines) (find (is_spared lines keep) order)
