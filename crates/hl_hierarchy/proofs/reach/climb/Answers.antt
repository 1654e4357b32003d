use Rattle.std.proofs.Common.{◌≢◌, arith}
use Rattle.std.specs.Prelude.{slice_index}
use Rattle.std.proofs.lemmas.Bool.Decides.{nat_tests}
use Rattle.hl_hierarchy.proofs.Climbs.{climb_begins, climb_lost, climb_more, climb_passes, climb_reaches, fewer}
use Rattle.hl_hierarchy.proofs.reach.climb.Goals as goal

pub up-init : goal.up-init
up-init c = climb_begins c.args.parents.now c.args.seen.now c.args.start c.requires.high c.requires.passed

pub up-preserved : goal.up-preserved
up-preserved c = climb_more c.args.parents.now c.up.seen c.args.start c.up.at c.requires.low c.up.invariant c.requires.below c.up-test.true

pub up-smaller : goal.up-smaller
up-smaller c =
    let size = c.up.invariant.size in
    let inside = c.up.invariant.inside in
    fewer c.up.seen c.up.at c.args.start (omega arith) c.up-test.true (omega (arith, c.requires.low))

pub returns : goal.returns
returns c =
    let parents = c.args.parents.now in
    let seen = c.up.seen in
    let some : slice_index seen c.up.at ≢ 0 = c.up-test.false in record {
      passed = λ yes. climb_passes parents seen c.args.start c.up.at c.requires.low c.up.invariant some (let e = yes in grind (arith, nat_tests));
      climbs = λ yes. climb_reaches parents seen c.args.start c.up.at c.requires.low c.up.invariant some (let e = yes in grind (arith, nat_tests));
      never = λ no. climb_lost parents seen c.args.start c.up.at c.requires.low c.up.invariant some (let e = no in grind (arith, nat_tests));
    }
