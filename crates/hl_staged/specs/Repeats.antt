-- Numbers that stand twice in a list.
use Rattle.std.specs.Prelude.{◌≡◌, ℕ, ◌<◌, List, length, Option, Some, None}
use Rattle.std.specs.List.{slice_index_or}

-- the number stands at this place
abbrev pub StandsAt : List (Option ℕ) → ℕ → ℕ → Type 0
StandsAt numbers number place = slice_index_or numbers place None ≡ Some number

-- the number at this place stands at an earlier one too
pub record IsRepeat (numbers : List (Option ℕ)) (place : ℕ) : Type 0 where
  pub within : place < length numbers
  pub number : ℕ
  pub here : StandsAt numbers number place
  pub first : ℕ
  pub earlier : first < place
  pub there : StandsAt numbers number first

-- no number stands at two places
abbrev pub AreOnce : List (Option ℕ) → Type 0
AreOnce numbers = (number m n : ℕ) → StandsAt numbers number m → StandsAt numbers number n → m ≡ n
