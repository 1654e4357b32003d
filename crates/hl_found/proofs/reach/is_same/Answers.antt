use Rattle.std.proofs.Common.{refl, arith}
use Rattle.std.proofs.lemmas.List.{same_lists}
use Rattle.hl_found.proofs.reach.is_same.Goals as goal

pub returns : goal.returns
returns c = (λ yes. same_lists c.args.one.now c.args.other.now (omega arith) (λ i d lt. c.names.invariant i d (omega (arith, c.names-test.false))), λ same. refl)
