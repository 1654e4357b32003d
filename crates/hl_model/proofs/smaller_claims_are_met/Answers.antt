use Rattle.hl_model.specs.Laws.{Passes}
use Rattle.hl_model.proofs.Claims.{no_greater-refl, no_greater-trans, smaller-met}
use Rattle.hl_model.proofs.smaller_claims_are_met.Goals as goal

pub returns : goal.returns
returns c = record {
  itself = λ claim. no_greater-refl claim;
  further = λ one other third a b. no_greater-trans one other third a b;
  met = λ k may buffer one other within meets. smaller-met k (Passes may) buffer one other within meets;
}
