-- What a seat may ask of the object.
use Rattle.std.specs.Prelude.{ℕ, Option, IfSome, List}
use Rattle.hl_turn.specs.Jobs.{Has, AllMeet, Distinct}

module _ {X I : Type 0} (asks : ℕ → X → Type 0) (brings : X → Option ℕ) (returns : X → I → Type 0) where
  -- the seat n, which holds h, may give the event: what the event brings back is a job that the seat holds
  pub record MayAsk (n : ℕ) (h : List (ℕ × I)) (event : X) : Type 0 where
    pub named : asks n event
    pub held : IfSome (brings event) (λ job. (x : I) × Has h job x × returns event x)

module _ {T X I C : Type 0} (legal_over : T → T → Type 0) (jobs_out : T → T → List (ℕ × C)) (meets : I → C → Type 0) (asks : ℕ → X → Type 0) (brings : X → Option ℕ) (returns : X → I → Type 0) where
  -- the object x is legal over the opening and has each job out once, the jobs h are among these and meet their
  -- claims, and the seat n that holds them may give the event
  pub record IsReady (opening x : T) (n : ℕ) (h : List (ℕ × I)) (event : X) : Type 0 where
    pub legal : legal_over opening x
    pub may : MayAsk asks brings returns n h event
    pub met : AllMeet meets (jobs_out opening x) h
    pub apart : Distinct h
    pub once : Distinct (jobs_out opening x)
