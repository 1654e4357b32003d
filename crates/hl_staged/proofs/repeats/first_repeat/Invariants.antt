use Rattle.hl_staged.proofs.Repeated.{AreSeen}
use Rattle.hl_staged.proofs.repeats.first_repeat.Given as goal

abbrev pub invariant-places : goal.invariant-places
invariant-places l = AreSeen l.numbers l.i l.seen
