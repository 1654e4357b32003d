-- What each kind of atomic step tells its seat, which is m before and n after.
-- Splitting and joining are `left`, `right` and `both` of Views.
use Rattle.std.specs.Prelude.{◌≡◌, ℕ, ◌%◌, ◌^◌, ◌<◌, ◌≤◌, ◌==◌, Some, List, [], ◌∷◌, ◌++◌, MatchBool}
use Rattle.atomic_table.specs.Table.{Me, rest}
use Rattle.hl_turn.specs.Entries.{Begins}
use Rattle.hl_turn.specs.Jobs.{Distinct, AllMeet}
use Rattle.hl_turn.specs.Views.{moved, knowing}
use Rattle.hl_turn.specs.declared.view.View.{View}
use Rattle.hl_turn.specs.declared.view.Stage.TheVariants.{Idle, Drawn, Served, Counted}

module _ {T E I C : Type 0} where
  -- the seat has a ticket, whose low 64 bits are the word found
  abbrev pub draws : Me T (View T E I C) → ℕ → Me T (View T E I C) → Type 0
  draws m r n = (n ≡ (moved m.0 m.0.seen m.0.mine m.0.holds m.0.outs m.0.steps Drawn n.0.ticket, m.1)) × (n.0.ticket % 2 ^ 64 ≡ r)

  -- the seat has given the object back
  abbrev pub gives_back : Me T (View T E I C) → Me T (View T E I C) → Type 0
  gives_back m n = n ≡ (moved m.0 m.0.seen m.0.mine m.0.holds m.0.outs m.0.steps Idle m.0.ticket, rest m.1)

  -- the seat knows of as many steps as were counted, and of no fewer than before
  abbrev pub looks : Me T (View T E I C) → ℕ → Me T (View T E I C) → Type 0
  looks m r n = (n ≡ (knowing n.0.steps m.0, m.1)) × (m.0.steps ≤ n.0.steps) × (r ≡ n.0.steps % 2 ^ 64)

  module _ (entries : T → List E) (legal_over : T → T → Type 0) (jobs_out : T → T → List (ℕ × C)) (meets : I → C → Type 0) where
    -- the seat has the object x, which is legal over the opening, begins with all that the seat had seen, and has
    -- each job out once
    abbrev pub Takes : Me T (View T E I C) → Me T (View T E I C) → Type 0
    Takes m n =
        (x o : T)
        × (n ≡ (moved m.0 (entries x) m.0.mine m.0.holds (jobs_out o x) m.0.steps Served m.0.ticket, (0, x) ∷ m.1))
        × (m.0.opening ≡ Some o) × legal_over o x × Begins m.0.seen (entries x)
        × AllMeet meets (jobs_out o x) m.0.holds × Distinct m.0.holds × Distinct (jobs_out o x)

    -- where the word found is the seat's ticket it has the object, and else nothing changed
    abbrev pub takes_turn : Me T (View T E I C) → ℕ → Me T (View T E I C) → Type 0
    takes_turn m r n = MatchBool (r == m.0.ticket % 2 ^ 64) (Takes m n) (n ≡ m)

  module _ (entries : T → List E) (jobs_out : T → T → List (ℕ × C)) where
    -- the seat has its entry, holds h, and knows of one step more
    abbrev pub counts_step : List (ℕ × I) → Me T (View T E I C) → Me T (View T E I C) → Type 0
    counts_step h m n =
        (x o : T) × (own : List E)
        × (m.1 ≡ (0, x) ∷ []) × (entries x ≡ m.0.seen ++ own)
        × (n ≡ (moved m.0 (entries x) (m.0.mine ++ own) h (jobs_out o x) n.0.steps Counted m.0.ticket, m.1))
        × (m.0.steps < n.0.steps) × (m.0.opening ≡ Some o)
