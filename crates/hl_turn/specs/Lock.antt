-- What contracts see of a lock and of a seat.
use Rattle.std.specs.Prelude.{◌≡◌, ℕ, Some, List, slice_get}
use Rattle.atomic_table.specs.Seated.{TableId}
use Rattle.hl_turn.specs.declared.view.View.{View}

-- the table that it is, the object as it was when the lock was made, and how many seats there are
pub record Lock (T : Type 0) : Type 0 where
  pub table : TableId
  pub opening : T
  pub seats : ℕ

-- the table that it is a seat of, and what it knows
pub record Seated (T E I C : Type 0) : Type 0 where
  pub table : TableId
  pub view : View T E I C

module _ {T E I C : Type 0} where
  -- the seat is of this lock
  pub record IsSeatOf (lock : Lock T) (seat : Seated T E I C) : Type 0 where
    pub table : seat.table ≡ lock.table
    pub opening : seat.view.opening ≡ Some lock.opening

  -- the seats are of this lock, and are numbered by their places
  abbrev pub AreSeatsOf : Lock T → List (Seated T E I C) → Type 0
  AreSeatsOf lock seats = (k : ℕ) (seat : Seated T E I C) → slice_get seats k ≡ Some seat → IsSeatOf lock seat × (seat.view.number ≡ k)
