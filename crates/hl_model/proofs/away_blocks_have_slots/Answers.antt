use Rattle.hl_model.proofs.KeptStep.{step_keeps_serials}
use Rattle.hl_model.proofs.away_blocks_have_slots.Goals as goal

pub returns : goal.returns
returns c = λ g shelf mid before event answer after site kept runs step. step_keeps_serials g shelf mid before event after site kept runs answer step
