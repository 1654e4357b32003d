use Rattle.hl_model.proofs.ClaimSteps.{step_keeps_claims}
use Rattle.hl_model.proofs.claims_dont_grow.Goals as goal

pub returns : goal.returns
returns c = λ g shelf mid before event answer after site cache allowed room writes runs step job out still.
    step_keeps_claims g shelf mid before event after site cache allowed room runs answer writes step job out still
