use Rattle.std.proofs.Common.{[]}
use Rattle.hl_found.specs.Reach.{at_path}
use Rattle.hl_found.proofs.reach.has_number.Goals as goal

pub returns-in-None : goal.returns-in-None
returns-in-None c = (λ e. absurd (cc), λ (i, (lt, own)). absurd (c.in-None.ensures i (at_path [] 0) lt (own (at_path [] 0))))
