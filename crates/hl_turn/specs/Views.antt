-- The view of a seat, and what becomes of it.
use Rattle.std.specs.Prelude.{◌≡◌, ℕ, ◌+◌, ◌<◌, ◌⊎◌, Some, None, List, [], ◌∷◌, ◌++◌, max}
use mathlib.Core.Option.{some}
use lib.ListN.{get_elem?}
use Rattle.hl_turn.specs.Entries.{longer}
use Rattle.hl_turn.specs.declared.view.View.{View}
use Rattle.hl_turn.specs.declared.view.Stage.{Stage}
use Rattle.hl_turn.specs.declared.view.Stage.TheVariants.{Idle, Drawn, Served, Counted, Spent}

-- the seat was not joined into another
abbrev pub IsLive : Stage → Type 0
IsLive Idle = Unit {0}
IsLive Drawn = Unit {0}
IsLive Served = Unit {0}
IsLive Counted = Unit {0}
IsLive Spent = ⊥

-- it has a ticket
abbrev pub IsBusy : Stage → Type 0
IsBusy Idle = ⊥
IsBusy Drawn = Unit {0}
IsBusy Served = Unit {0}
IsBusy Counted = Unit {0}
IsBusy Spent = ⊥

-- it has the object
abbrev pub HasObject : Stage → Type 0
HasObject Idle = ⊥
HasObject Drawn = ⊥
HasObject Served = Unit {0}
HasObject Counted = Unit {0}
HasObject Spent = ⊥

-- the tickets that it has
abbrev pub weight : Stage → ℕ
weight Idle = 0
weight Drawn = 1
weight Served = 1
weight Counted = 1
weight Spent = 0

-- the view with all that a step may change
abbrev pub moved : {T E I C : Type 0} → View T E I C → List E → List E → List (ℕ × I) → List (ℕ × C) → ℕ → Stage → ℕ → View T E I C
moved v seen mine holds outs steps st n = record {
  opening = v.opening;
  number = v.number;
  made = v.made;
  seen = seen;
  mine = mine;
  ended = v.ended;
  holds = holds;
  outs = outs;
  steps = steps;
  stage = st;
  ticket = n;
}

-- the view that knows of this many steps, and else what it knew
abbrev pub knowing : {T E I C : Type 0} → ℕ → View T E I C → View T E I C
knowing steps v = moved v v.seen v.mine v.holds v.outs steps v.stage v.ticket

-- the first seat, when the numbers below n are given out
abbrev pub dealing : {T E I C : Type 0} → T → ℕ → View T E I C
dealing o n = record {
  opening = Some o;
  number = 0;
  made = n;
  seen = [];
  mine = [];
  ended = [];
  holds = [];
  outs = [];
  steps = 0;
  stage = Idle;
  ticket = 0;
}

-- the first seat of a lock
abbrev pub starting : {T E I C : Type 0} → T → View T E I C
starting o = dealing o 1

-- a seat that was joined into another
abbrev pub spent_view : {T E I C : Type 0} → View T E I C
spent_view = record {
  opening = None;
  number = 0;
  made = 0;
  seen = [];
  mine = [];
  ended = [];
  holds = [];
  outs = [];
  steps = 0;
  stage = Spent;
  ticket = 0;
}

-- splitting: the seat has given out one number more
abbrev pub left : {T E I C : Type 0} → View T E I C → View T E I C
left v = record {
  opening = v.opening;
  number = v.number;
  made = v.made + 1;
  seen = v.seen;
  mine = v.mine;
  ended = v.ended;
  holds = v.holds;
  outs = v.outs;
  steps = v.steps;
  stage = v.stage;
  ticket = v.ticket;
}

-- splitting: the new seat has that number, and has seen as much
abbrev pub right : {T E I C : Type 0} → View T E I C → View T E I C
right v = record {
  opening = v.opening;
  number = v.made;
  made = 0;
  seen = v.seen;
  mine = [];
  ended = [];
  holds = [];
  outs = [];
  steps = v.steps;
  stage = Idle;
  ticket = 0;
}

-- joining: what the other had done is kept under its number, and what either knows of the numbers that are given out
abbrev pub both : {T E I C : Type 0} → View T E I C → View T E I C → View T E I C
both v w = record {
  opening = v.opening;
  number = v.number;
  made = max v.made w.made;
  seen = longer v.seen w.seen;
  mine = v.mine;
  ended = v.ended ++ (w.number, w.mine) ∷ w.ended;
  holds = v.holds;
  outs = v.outs;
  steps = max v.steps w.steps;
  stage = v.stage;
  ticket = v.ticket;
}

module _ {T E I C : Type 0} where
  -- the seat has done nothing yet
  pub record IsFresh (v : View T E I C) : Type 0 where
    pub seen : v.seen ≡ []
    pub mine : v.mine ≡ []
    pub ended : v.ended ≡ []
    pub holds : v.holds ≡ []

  -- the view tells that the seat n has made these entries
  abbrev pub IsKept : ℕ → List E → View T E I C → Type 0
  IsKept n mine v = ((v.number ≡ n) × (v.mine ≡ mine)) ⊎ ((i : ℕ) × (get_elem? v.ended i ≡ some (n, mine)))

  -- every number below n is the view's own or is kept in it
  abbrev pub Covers : ℕ → View T E I C → Type 0
  Covers n v = (j : ℕ) → j < n → (j ≡ v.number) ⊎ ((k : ℕ) × (m : List E) × (get_elem? v.ended k ≡ some (j, m)))
