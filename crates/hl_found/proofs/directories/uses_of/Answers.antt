use Rattle.std.proofs.Common.{arith}
use Rattle.hl_found.proofs.DirectoriesFound.{uses_made, uses_lost}
use Rattle.hl_found.proofs.directories.uses_of.Goals as goal

pub returns-in-None : goal.returns-in-None
returns-in-None c = λ placed has.
    let u = uses_lost c.args.nodes.now placed has c.numbers.number in
    let none = rw c.in-None.is at c.in_ok-found.ensures in
    none u.0 u.1

pub returns : goal.returns
returns c =
    let count = c.numbers.invariant.count in
    let end = c.numbers.auto.number-end in
    let stop = c.numbers-test.false in
    uses_made c.args.nodes.now c.numbers.uses.items (omega arith) (λ i lt. c.numbers.invariant.each i (omega arith))
