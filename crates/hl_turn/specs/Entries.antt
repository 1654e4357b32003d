-- Lists of entries, each of which names the number of a seat.
use Rattle.std.specs.Prelude.{◌≡◌, ℕ, ◌⊎◌, ◌==◌, List, [], ◌∷◌, ◌++◌, length, filter, cond, ltb}

-- no entry, or one that names n
abbrev pub IsOwn : {E : Type 0} → (E → ℕ) → ℕ → List E → Type 0
IsOwn {E} seat_of n own = (own ≡ []) ⊎ ((e : E) × (own ≡ e ∷ []) × (seat_of e ≡ n))

-- ys begins with xs
abbrev pub Begins : {E : Type 0} → List E → List E → Type 0
Begins {E} xs ys = (more : List E) × (xs ++ more ≡ ys)

-- the entries that name n, in their order
abbrev pub by_seat : {E : Type 0} → (E → ℕ) → ℕ → List E → List E
by_seat seat_of n = filter (λ e. seat_of e == n)

-- the longer of two lists, and of equally long ones the first
abbrev pub longer : {E : Type 0} → List E → List E → List E
longer xs ys = cond (ltb (length xs) (length ys)) ys xs
