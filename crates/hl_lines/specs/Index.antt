-- Numbers by keys, in the order of their keys.
use Rattle.std.specs.Prelude.{◌≡◌, ℕ, ◌+◌, ◌<◌, ◌≤◌, ◌==◌, if◌then◌else◌, List, [], ◌∷◌, length, get_or, Option, Some, None, Result, Ok, Err}

-- the keys, the number of each, and how many there is memory for
pub record Index : Type 0 where
  pub keys : List ℕ
  pub numbers : List ℕ
  pub room : ℕ

-- the number of a key, if any
abbrev pub look_in : ℕ → List ℕ → List ℕ → Option ℕ
look_in key [] numbers = None
look_in key (other ∷ keys) [] = None
look_in key (other ∷ keys) (number ∷ numbers) = if other == key then Some number else look_in key keys numbers

abbrev pub look : ℕ → Index → Option ℕ
look key t = look_in key t.keys t.numbers

-- each key is below the next ones
abbrev pub AreRising : List ℕ → Type 0
AreRising keys = (i j : ℕ) → i < j → j < length keys → get_or keys i 0 < get_or keys j 0

-- the place of a key, or else where it would stand
abbrev pub IsPlace : List ℕ → ℕ → Result ℕ ℕ → Type 0
IsPlace keys key (Ok i) = (i < length keys) × (get_or keys i 0 ≡ key)
IsPlace keys key (Err i) = (i ≤ length keys) × ((k : ℕ) → k < i → get_or keys k 0 < key) × ((k : ℕ) → i ≤ k → k < length keys → key < get_or keys k 0)

-- rising keys, each with one number, and no more than there is memory for
pub record IsIndex (t : Index) : Type 0 where
  pub rising : AreRising t.keys
  pub each : length t.numbers ≡ length t.keys
  pub few : length t.keys ≤ t.room

-- a key has the number now, and all others have what they had
pub record Puts (old : Index) (key number : ℕ) (new : Index) : Type 0 where
  pub found : (other : ℕ) → look other new ≡ (if key == other then Some number else look other old)
  pub count : length new.keys ≡ length old.keys + 1
  pub room : new.room ≡ old.room

-- a key has no number, and all others have what they had
pub record Drops (old : Index) (key : ℕ) (new : Index) : Type 0 where
  pub found : (other : ℕ) → look other new ≡ (if key == other then None else look other old)
  pub count : length new.keys + 1 ≡ length old.keys
  pub room : new.room ≡ old.room
