use Rattle.hl_staged.proofs.Repeated.{seen_all}
use Rattle.hl_staged.proofs.repeats.first_repeat.Goals as goal

pub returns : goal.returns
returns c = seen_all c.args.numbers.now c.places.i c.places.seen c.places.invariant c.places-test.false
