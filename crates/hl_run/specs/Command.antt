-- The forms of the command line, and what is said where no line is done.
use Rattle.std.specs.Prelude.{◌≡◌, ◌⊎◌, ℕ, List, [], ◌∷◌, codes}

-- the words of `run`
abbrev pub IsRun : List (List ℕ) → Type 0
IsRun words = words ≡ codes "run" ∷ []

-- the words of `mkfs`
abbrev pub IsMkfs : List (List ℕ) → Type 0
IsMkfs words = words ≡ codes "mkfs" ∷ []

-- the words are of a form
abbrev pub IsForm : List (List ℕ) → Type 0
IsForm words = IsRun words ⊎ IsMkfs words

-- how the program is called
abbrev pub usage_text : List ℕ
usage_text = codes "usage: highlight mkfs | run | check | make SEED COUNT | crew\n"

-- the disk is too small
abbrev pub small_text : List ℕ
small_text = codes "bad site small 2112\n"

-- a disk is made
abbrev pub made_text : List ℕ
made_text = codes "made\n"
