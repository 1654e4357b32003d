-- What leads up to the root, by the directory that is noted for each number.
use Rattle.std.specs.Prelude.{◌≡◌, ◌≢◌, ℕ, zero, suc, ◌<◌, ◌≤◌, List, length, slice_index, Option, IsSome}
use Rattle.hl_survey.specs.declared.found.FoundInode.{FoundInode}
use Rattle.hl_hierarchy.specs.Naming.{at_number}

-- so many steps up from a number is the root
abbrev pub ClimbsIn : List ℕ → ℕ → ℕ → Type 0
ClimbsIn parents zero x = x ≡ 1
ClimbsIn parents (suc n) x = ClimbsIn parents n (slice_index parents x)

-- some steps up is the root
abbrev pub Climbs : List ℕ → ℕ → Type 0
Climbs parents x = (n : ℕ) × ClimbsIn parents n x

-- What earlier climbs passed, each number marked by the climb's first: it is below this one, and the root is above.
pub record ArePassed (parents seen : List ℕ) (start : ℕ) : Type 0 where
  pub size : length seen ≡ length parents
  pub root : slice_index seen 1 ≡ 1
  pub below : (x : ℕ) → slice_index seen x ≢ 0 → slice_index seen x < start
  pub climbs : (x : ℕ) → slice_index seen x ≢ 0 → Climbs parents x

-- a number in use from which no steps up lead to the root
pub record IsLost (found : List (Option FoundInode)) (parents : List ℕ) (ino : ℕ) : Type 0 where
  pub low : 1 ≤ ino
  pub high : ino < length found
  pub used : IsSome (at_number found ino)
  pub never : ¬ Climbs parents ino

-- each number in use is below the root
abbrev pub AreBelowRoot : List (Option FoundInode) → List ℕ → Type 0
AreBelowRoot found parents = (ino : ℕ) → 1 ≤ ino → IsSome (at_number found ino) → Climbs parents ino
