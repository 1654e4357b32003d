-- The times that a clock tells.
use Rattle.std.specs.Prelude.{ℕ, List, [], ◌∷◌}

-- the next time: 0 where there is none
abbrev pub first_time : List ℕ → ℕ
first_time [] = 0
first_time (time ∷ times) = time

-- the times that are left after it: the last one stays
abbrev pub later_times : List ℕ → List ℕ
later_times [] = []
later_times (time ∷ []) = time ∷ []
later_times (time ∷ next ∷ times) = next ∷ times
