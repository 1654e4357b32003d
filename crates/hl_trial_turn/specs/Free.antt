-- A row of seats of one lock, none of which has a job out.
use Rattle.std.specs.Prelude.{◌≡◌, ℕ, Some, List, [], slice_get}
use Rattle.hl_turn.specs.Lock.{Lock, Seated, IsSeatOf}

module _ {T E I C : Type 0} where
  -- the seat is of the same lock, with its number and what it held
  pub record IsSame (before after : Seated T E I C) : Type 0 where
    pub table : after.table ≡ before.table
    pub opening : after.view.opening ≡ before.view.opening
    pub number : after.view.number ≡ before.view.number
    pub holds : after.view.holds ≡ before.view.holds

  -- the seats are the lock's, in order, and hold nothing
  abbrev pub AreFree : Lock T → List (Seated T E I C) → Type 0
  AreFree lock seats = (k : ℕ) (s : Seated T E I C) → slice_get seats k ≡ Some s → IsSeatOf lock s × (s.view.number ≡ k) × (s.view.holds ≡ [])
