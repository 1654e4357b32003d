use Rattle.std.proofs.Common.{◌≤◌, arith, below_more}
use Rattle.std.specs.Prelude.{IsSome}
use Rattle.hl_hierarchy.specs.Naming.{at_number}
use Rattle.hl_hierarchy.specs.Climbing.{Climbs}
use Rattle.hl_hierarchy.proofs.NamedNumbers.{below_count, dir_of}
use Rattle.hl_hierarchy.proofs.reach.first_lost.Goals as goal

pub numbers-init : goal.numbers-init
numbers-init c = record {
  passed = c.requires.passed;
  climb = λ k lt low some. (0, omega arith);
}

pub numbers-preserved : goal.numbers-preserved
numbers-preserved c = record {
  passed = c.is_below_root.ensures.passed c.if-not-is_below_root.false;
  climb = below_more (λ k. 1 ≤ k → IsSome (at_number c.args.found.now k) → Climbs c.args.parents.now k) c.numbers.ino c.numbers.invariant.climb
      (λ low some. c.is_below_root.ensures.climbs c.if-not-is_below_root.false some);
}

pub returns : goal.returns
returns c = λ k low some.
    let dir = dir_of c.args.found.now k some in
    let lt = below_count c.args.found.now k dir.0 dir.1 in
    c.numbers.invariant.climb k (omega (arith, c.numbers-test.false, c.requires.size)) low some
