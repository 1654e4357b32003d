-- Lists of slips whose numbers count up.
use Rattle.std.proofs.Common.{◌≡◌, ⊎_elim, ℕ, List, [], ◌∷◌, ◌++◌, length, sym, ap, ◌∙◌, subst}
use Rattle.hl_turn.proofs.Lists.{at_end}
use Rattle.hl_turn.proofs.SeatRows.{at_get, get_at}
use Rattle.hl_trial_turn.specs.declared.slip.Slip.{Slip}
use Rattle.hl_trial_turn.specs.Slips.{CountsUp, slip}

pub CountsUp-snoc : (log log' : List Slip) (n m : ℕ) → log' ≡ log ++ slip n m ∷ [] → m ≡ length log → CountsUp log → CountsUp log'
CountsUp-snoc log log' n m is e legal = subst CountsUp (sym is) (λ k x at. ⊎_elim (λ old. legal k x (get_at log k x old))
    (λ t. ap (λ (d : Slip). d.number) (sym t.1) ∙ (e ∙ sym t.0)) (at_end log (slip n m) x k (at_get (log ++ slip n m ∷ []) k x at)))
