use Rattle.hl_model.proofs.Cleaned.{step_keeps_emptied}
use Rattle.hl_model.proofs.cleaned_segments_hold_no_block.Goals as goal

pub returns : goal.returns
returns r = λ g shelf mid before event answer after were runs step. step_keeps_emptied g shelf mid before event after runs answer step were
