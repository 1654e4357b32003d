-- Which numbers the entries of a directory name, and the directory that is noted for each number.
use Rattle.std.specs.Prelude.{◌≡◌, ◌≢◌, ◌⊎◌, ℕ, ◌<◌, List, length, map, slice_index, Option, None, IsSome}
use Rattle.std.specs.List.{slice_index_or}
use Rattle.hl_dir.specs.declared.entry.Entry.{Entry}
use Rattle.hl_survey.specs.declared.found.FoundInode.{FoundInode}

-- what was found of a number
abbrev pub at_number : List (Option FoundInode) → ℕ → Option FoundInode
at_number found ino = slice_index_or found ino None

-- the numbers that entries name, in their order
abbrev pub numbers : List Entry → List ℕ
numbers es = map (λ (e : Entry). e.ino) es

-- a number that an entry may name: it is in use, and isn't the root
pub record IsNameable (found : List (Option FoundInode)) (child : ℕ) : Type 0 where
  pub used : IsSome (at_number found child)
  pub other : child ≢ 1

-- the directory was noted for a number for which none was
pub record Notes (old new : List ℕ) (ino child : ℕ) : Type 0 where
  pub free : slice_index old child ≡ 0
  pub set : slice_index new child ≡ ino
  pub others : (c : ℕ) → c ≢ child → slice_index new c ≡ slice_index old c

-- what is noted for a number stayed, or is the directory, which names it by one of its first n entries
abbrev pub IsNotedBy : List ℕ → ℕ → List ℕ → List ℕ → ℕ → ℕ → Type 0
IsNotedBy cs n old new ino c =
    (slice_index new c ≡ slice_index old c)
    ⊎ ((k : ℕ) × (k < n) × (slice_index cs k ≡ c) × (slice_index new c ≡ ino))

-- The directory was noted for the numbers of its first n entries. Each may be named, none was noted for it before, and no
-- two are one.
pub record NotesEach (found : List (Option FoundInode)) (cs : List ℕ) (n : ℕ) (old new : List ℕ) (ino : ℕ) : Type 0 where
  pub may : (k : ℕ) → k < n → IsNameable found (slice_index cs k)
  pub free : (k : ℕ) → k < n → slice_index old (slice_index cs k) ≡ 0
  pub set : (k : ℕ) → k < n → slice_index new (slice_index cs k) ≡ ino
  pub apart : (j k : ℕ) → j < k → k < n → slice_index cs j ≢ slice_index cs k
  pub only : (c : ℕ) → IsNotedBy cs n old new ino c

-- entry k names a number that it may not name, or for which a directory was noted, or that an entry before it names
pub record IsOffAt (found : List (Option FoundInode)) (cs old : List ℕ) (k : ℕ) : Type 0 where
  pub within : k < length cs
  pub off : ¬ IsNameable found (slice_index cs k)
      ⊎ ((slice_index old (slice_index cs k) ≢ 0) ⊎ ((j : ℕ) × (j < k) × (slice_index cs j ≡ slice_index cs k)))

-- some entry is so
abbrev pub IsOffSomewhere : List (Option FoundInode) → List ℕ → List ℕ → Type 0
IsOffSomewhere found cs old = (k : ℕ) × IsOffAt found cs old k

-- what is noted for each number is below this one
abbrev pub EachBelow : List ℕ → ℕ → Type 0
EachBelow parents n = (c : ℕ) → slice_index parents c < n
