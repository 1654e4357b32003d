-- Numbers that were given out.
use Rattle.std.specs.Prelude.{◌≡◌, ℕ, List, [], ◌∷◌, ◌++◌, Option, Some, None, MatchOption, slice_get}
use Rattle.std.proofs.Common.{subst, sym}
use Rattle.hl_trial_turn.specs.declared.slip.Slip.{Slip}

-- the slip of the seat n with the number k
abbrev pub slip : ℕ → ℕ → Slip
slip n k = record { seat = n; number = k }

-- the numbers count up from 0
abbrev pub CountsUp : List Slip → Type 0
CountsUp log = (k : ℕ) (e : Slip) → slice_get log k ≡ Some e → e.number ≡ k

-- one draw by the seat n: the number stands at the end, or nothing changed
abbrev pub Draws : List Slip → ℕ → Option ℕ → List Slip → Type 0
Draws log n answer log' = MatchOption answer (log' ≡ log) (λ k. log' ≡ log ++ slip n k ∷ [])

IsSomething : Option Slip → Type 0
IsSomething None = ⊥
IsSomething (Some x) = Unit {0}

none_some : {x : Slip} → None ≡ Some x → ⊥
unfolding IsSomething
none_some e = subst IsSomething (sym e) tt

pub CountsUp-none : (log : List Slip) → log ≡ [] → CountsUp log
CountsUp-none log none = subst CountsUp (sym none) (λ k e at. absurd (none_some at))
