-- Jobs by their numbers: those that a seat holds, each as it left, and those that the object has out, each with its claim.
use Rattle.std.specs.Prelude.{◌≡◌, ℕ, ◌⊎◌, Option, Some, None, List, [], ◌∷◌, ◌++◌, cond, eqb}
use mathlib.Core.Option.{some}
use lib.ListN.{get_elem?}

-- the list has x under the number n
abbrev pub Has : {X : Type 0} → List (ℕ × X) → ℕ → X → Type 0
Has xs n x = (k : ℕ) × (get_elem? xs k ≡ some (n, x))

-- the list has nothing under the number n
abbrev pub Lacks : {X : Type 0} → List (ℕ × X) → ℕ → Type 0
Lacks {X} xs n = (x : X) → Has xs n x → ⊥

-- no number stands twice
abbrev pub Distinct : {X : Type 0} → List (ℕ × X) → Type 0
Distinct [] = Unit {0}
Distinct (p ∷ ps) = Lacks ps p.0 × Distinct ps

-- the list without what it has under the number n
abbrev pub without : {X : Type 0} → ℕ → List (ℕ × X) → List (ℕ × X)
without n [] = []
without n (p ∷ ps) = cond (eqb p.0 n) (without n ps) (p ∷ without n ps)

-- what is held after one job came back and one was taken out; a job that is handed back at once stays as it left
abbrev pub exchanged : {I : Type 0} → Option ℕ → Option (ℕ × I) → List (ℕ × I) → List (ℕ × I)
exchanged None None h = h
exchanged None (Some job) h = h ++ job ∷ []
exchanged (Some n) None h = without n h
exchanged (Some n) (Some job) h = cond (eqb job.0 n) h (without n h ++ job ∷ [])

-- what a seat that held h holds after an event and its answer
abbrev pub held_after : {X Y I : Type 0} → (X → Option ℕ) → (X → Y → Option (ℕ × I)) → List (ℕ × I) → X → Y → List (ℕ × I)
held_after brings takes h event answer = exchanged (brings event) (takes event answer) h

module _ {I C : Type 0} (meets : I → C → Type 0) where
  -- each job that is held is out, and meets its claim
  abbrev pub AllMeet : List (ℕ × C) → List (ℕ × I) → Type 0
  AllMeet outs h = (n : ℕ) (x : I) → Has h n x → (c : C) × Has outs n c × meets x c

  -- One step of a seat that holds h, where `outs` are the jobs out: it holds h' afterwards, and the jobs out are outs'
  pub record Shifts (h : List (ℕ × I)) (outs : List (ℕ × C)) (h' : List (ℕ × I)) (outs' : List (ℕ × C)) : Type 0 where
    -- each job that it holds then is out, and meets its claim
    pub met : AllMeet outs' h'
    -- it holds no job twice, and no job stands twice among those out
    pub apart : Distinct h'
    pub once : Distinct outs'
    -- a job of another seat stays out, with a claim that is no greater
    pub others : (n : ℕ) (c : C) → Has outs n c → Lacks h n → (c' : C) × Has outs' n c' × ((x : I) → meets x c → meets x c')
    -- a job that it holds then was its own, or was not out
    pub own : (n : ℕ) (x : I) → Has h' n x → ((y : I) × Has h n y) ⊎ Lacks outs n
    -- a job that is out then is its own, or was out and another seat's
    pub all : (n : ℕ) (c : C) → Has outs' n c → ((x : I) × Has h' n x) ⊎ (((d : C) × Has outs n d) × Lacks h n)
