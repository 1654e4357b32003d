-- How often a number stands in a list.
use Rattle.std.specs.Prelude.{ℕ, ◌≤◌, ◌==◌, List, count_by, Option, Some, None}

abbrev pub times : ℕ → List ℕ → ℕ
times x xs = count_by (λ (y : ℕ). y == x) xs

-- a number that stands there twice or more, or none where each stands there at most once
abbrev pub TellsTwice : List ℕ → Option ℕ → Type 0
TellsTwice xs None = (x : ℕ) → times x xs ≤ 1
TellsTwice xs (Some x) = 2 ≤ times x xs
