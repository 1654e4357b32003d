use Rattle.hl_staged.proofs.EndsOff.{zero_from}
use Rattle.hl_staged.proofs.ends.is_zero_from.Goals as goal

pub returns : goal.returns
returns c =
    let zero = zero_from c.args.bytes.now c.args.from c.requires.size c.requires.within in
    (λ yes. zero.0 (c.is_zero.ensures.0 yes), λ is. c.is_zero.ensures.1 (zero.1 is))
