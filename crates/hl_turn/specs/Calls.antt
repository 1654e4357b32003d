-- What a step under the lock tells its caller.
use Rattle.std.specs.Prelude.{◌≡◌, ℕ, ◌<◌, Option, Some, List, [], ◌∷◌, ◌++◌}
use Rattle.atomic_table.specs.Table.{Me}
use Rattle.hl_turn.specs.Entries.{IsOwn, Begins}
use Rattle.hl_turn.specs.Jobs.{Distinct, AllMeet, Shifts, held_after}
use Rattle.hl_turn.specs.declared.view.View.{View}
use Rattle.hl_turn.specs.declared.view.Stage.TheVariants.{Idle, Served}

module _ {T E I C X Y : Type 0} (entries : T → List E) (seat_of : E → ℕ) (legal_over : T → T → Type 0) (jobs_out : T → T → List (ℕ × C)) (meets : I → C → Type 0) (does : T → X → Y → T → Type 0) where
  -- One call of a seat, whose view was v and is w: the object that it found made one step, and was left under the lock
  pub record IsAnswered (opening : T) (v : View T E I C) (event : X) (answer : Y) (w : View T E I C) : Type 0 where
    -- the object as the step found it, and as the step left it
    pub found : T
    pub left : T
    -- the entry that the step gave, if it gave one
    pub own : List E
    -- the answer is that of one call of the object's step
    pub made : does found event answer left
    -- the object was legal over the opening, and is
    pub was_legal : legal_over opening found
    pub is_legal : legal_over opening left
    -- its list began with all that the seat had seen
    pub begins : Begins v.seen (entries found)
    -- its list has the entry more, which is the seat's own
    pub grows : entries left ≡ entries found ++ own
    pub owned : IsOwn seat_of v.number own
    -- the seat has seen the whole list, and has the entry more of its own
    pub seen : w.seen ≡ entries left
    pub mine : w.mine ≡ v.mine ++ own
    -- what the seat held was out, where each job stood once, and met its claims; of the jobs that are out its own
    -- changed, and no other's claim is greater
    pub met : AllMeet meets (jobs_out opening found) v.holds
    pub once : Distinct (jobs_out opening found)
    pub jobs : Shifts meets v.holds (jobs_out opening found) w.holds (jobs_out opening left)

module _ {T E I C X Y : Type 0} (entries : T → List E) (seat_of : E → ℕ) (legal_over : T → T → Type 0) (jobs_out : T → T → List (ℕ × C)) (meets : I → C → Type 0) (does : T → X → Y → T → Type 0) (brings : X → Option ℕ) (takes : X → Y → Option (ℕ × I)) where
  -- The object x became y by one step of the seat n, which held the jobs h
  pub record IsStep (n : ℕ) (h : List (ℕ × I)) (x : T) (event : X) (answer : Y) (y : T) (own : List E) : Type 0 where
    pub made : does x event answer y
    pub grows : entries y ≡ entries x ++ own
    pub owned : IsOwn seat_of n own
    pub jobs : (o : T) → legal_over o x → AllMeet meets (jobs_out o x) h → Distinct h → Distinct (jobs_out o x) → legal_over o y × Shifts meets h (jobs_out o x) (held_after brings takes h event answer) (jobs_out o y)

  -- the object in the seat's hand made one step
  abbrev pub IsWork : ℕ → Me T (View T E I C) → X → Y → Me T (View T E I C) → Type 0
  IsWork n m event answer m' =
      (x y : T) × (own : List E)
      × (m.1 ≡ (0, x) ∷ []) × (m' ≡ (m.0, (0, y) ∷ [])) × IsStep n m.0.holds x event answer y own

  -- the call is over: the seat, whose view was v and is w, is idle again
  pub record IsReturned (opening : T) (v : View T E I C) (event : X) (answer : Y) (w : View T E I C) : Type 0 where
    pub answered : IsAnswered entries seat_of legal_over jobs_out meets does opening v event answer w
    pub holds : w.holds ≡ held_after brings takes v.holds event answer
    pub counted : v.steps < w.steps
    pub same_number : w.number ≡ v.number
    pub same_opening : w.opening ≡ v.opening
    pub idle : w.stage ≡ Idle

module _ {T E I C : Type 0} (entries : T → List E) (seat_of : E → ℕ) (jobs_out : T → T → List (ℕ × C)) (meets : I → C → Type 0) where
  -- the seat may count its step, and holds h afterwards
  abbrev pub MayCount : List (ℕ × I) → Me T (View T E I C) → Type 0
  MayCount h m =
      (x o : T) × (own : List E)
      × (m.0.stage ≡ Served) × (m.1 ≡ (0, x) ∷ []) × (entries x ≡ m.0.seen ++ own)
      × IsOwn seat_of m.0.number own × Shifts meets m.0.holds m.0.outs h (jobs_out o x) × (m.0.opening ≡ Some o)
