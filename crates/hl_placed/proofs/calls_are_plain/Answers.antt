use Rattle.hl_placed.proofs.Plain.{plain-placed_after}
use Rattle.hl_placed.proofs.calls_are_plain.Goals as goal

pub returns : goal.returns
returns c = λ limits shelf placed are now call. plain-placed_after shelf placed limits are now call
