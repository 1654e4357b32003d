use Rattle.std.proofs.Common.{arith}
use Rattle.hl_census.proofs.Repeats.{apart_once, same_twice}
use Rattle.hl_census.proofs.sharing.twice.Goals as goal

pub returns-then-sorted-i : goal.returns-then-sorted-i
returns-then-sorted-i c = same_twice c.args.sorted.now c.places.i c.places.auto.i c.places-test.true c.if-sorted-i.true

pub returns : goal.returns
returns c = apart_once c.args.sorted.now c.requires (λ j lt. c.places.invariant j (omega (arith, c.places-test.false)))
