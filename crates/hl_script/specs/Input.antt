-- The lines of an input.
use Rattle.std.specs.Prelude.{ℕ, ◌+◌, ◌≡◌, ◌<◌, ◌≤◌, min, Bool, ◌==◌, ◌||◌, nat_lt, not, true, false, if◌then◌else◌, List, [], ◌∷◌, ◌++◌, length, Some, IfSome, ◌⊎◌, Result, MatchResult}
use Rattle.std.specs.declared.option.Option.{Option}
use Rattle.std.specs.Io.KnownBytes.{IsAtEnd, Keeps, Consumes}
use Rattle.std.specs.List.{before_first, after_first, position_or_len, onto_first}

abbrev pub is_newline : ℕ → Bool
is_newline b = b == 10

-- none of these bytes is a newline
abbrev pub HasNoNewline : List ℕ → Type 0
HasNoNewline [] = Unit {0}
HasNoNewline (b ∷ bytes) = (is_newline b ≡ false) × HasNoNewline bytes

-- the lines: each ends with a newline, the last one perhaps with the input
abbrev pub lines_of : List ℕ → List (List ℕ)
lines_of [] = []
lines_of (b ∷ bytes) = if is_newline b then [] ∷ lines_of bytes else onto_first b (lines_of bytes)

-- the first line of what is left, and what is left behind it
abbrev pub line_of : List ℕ → List ℕ
line_of left = before_first is_newline left

abbrev pub beyond : List ℕ → List ℕ
beyond left = after_first is_newline left

-- how many bytes the first line takes, with its newline
abbrev pub cost : List ℕ → ℕ
cost left = min (length (line_of left) + 1) (length left)

-- the most bytes of a line, without its newline
abbrev pub longest : ℕ
longest = 140000

-- the most bytes that are held at once: a line's, and one piece more
abbrev pub most_held : ℕ
most_held = 205536

-- What one read puts behind what is held; none only at the end.
abbrev pub ReadsOn : {E : Type 0} → Option (List ℕ) → Option (List ℕ) → Result ℕ E → List ℕ → List ℕ → Type 0
ReadsOn left left' result held held' =
    MatchResult result
    (λ count. (piece : List ℕ) × (held' ≡ held ++ piece) × (length piece ≡ count) × Consumes left left' piece × (count ≡ 0 → IsAtEnd left'))
    (λ _. (held' ≡ held) × Keeps left left')

-- the first line is too long, or passes the limit on the whole input, of which these bytes were used before
abbrev pub passes_limit : ℕ → ℕ → List ℕ → Bool
passes_limit limit used left = nat_lt longest (length (line_of left)) || nat_lt limit (used + cost left)

-- what a reader of lines holds: bytes that were read and not yet given, and how many were given
pub record Ahead : Type 0 where
  pub held : List ℕ
  pub used : ℕ
  pub limit : ℕ

-- a line is held, or the front of one that is too long, or all that is left
abbrev pub IsReady : List ℕ → Option (List ℕ) → Type 0
IsReady held left =
    (position_or_len is_newline held < length held) ⊎ ((longest < length held) ⊎ IsAtEnd left)

-- What is given of the bytes that were left: a line, unless none was left.
pub record Gives (old new : Ahead) (bytes : List ℕ) (after : Option (List ℕ)) (found : Bool) (out : List ℕ) : Type 0 where
  pub more : found ≡ not (length bytes == 0)
  pub line : out ≡ line_of bytes
  pub left : after ≡ Some (beyond bytes)
  pub used : new.used ≡ old.used + cost bytes
  pub within : passes_limit old.limit old.used bytes ≡ false

-- the lines of bytes of which one was taken, or none where there are none
abbrev pub given_lines : Bool → List ℕ → List ℕ → List (List ℕ)
given_lines true out rest = out ∷ lines_of rest
given_lines false out rest = []

-- The line given is the first of the lines of these bytes, and the bytes are counted.
pub record Cuts (old new : Ahead) (bytes : List ℕ) (found : Bool) (out : List ℕ) : Type 0 where
  pub lines : lines_of bytes ≡ given_lines found out (beyond bytes)
  pub size : new.used + length (beyond bytes) ≡ old.used + length bytes
  pub short : length out ≤ longest

-- the first line is too long, or the input is
abbrev pub IsTooLong : ℕ → ℕ → List ℕ → Type 0
IsTooLong limit used bytes = (longest < length (line_of bytes)) ⊎ (limit < used + cost bytes)
