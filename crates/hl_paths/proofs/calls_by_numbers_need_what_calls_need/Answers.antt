use Rattle.hl_paths.proofs.Needs.{need-numbers}
use Rattle.hl_paths.proofs.calls_by_numbers_need_what_calls_need.Goals as goal

pub returns : goal.returns
returns c = λ before placed has call. need-numbers has.numbered placed has.tree call
