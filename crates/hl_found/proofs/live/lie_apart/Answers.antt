use Rattle.std.proofs.Common.{◌<◌, refl, arith, length}
use Rattle.hl_found.proofs.Apart.{apart_by_items, items_apart}
use Rattle.hl_found.proofs.live.lie_apart.Goals as goal

pub returns-then-not-is_apart : goal.returns-then-not-is_apart
returns-then-not-is_apart c g image rec t lists =
    let li : c.ones.i < length c.args.lives.now = omega (arith, c.ones-test.true) in
    let lj : c.others.j < length c.args.lives.now = omega (arith, c.ones-test.true, c.others-test.true) in
    (λ e. absurd (cc), λ apart. c.if-not-is_apart.ensures.1 (items_apart g image rec t c.args.lives.now lists apart c.ones.i c.others.j _ li lj))

pub returns : goal.returns
returns c g image rec t lists =
    (λ yes. apart_by_items g image rec t c.args.lives.now lists (λ i j d lt low. c.ones.invariant i j d (omega (arith, c.ones-test.false)) low), λ apart. refl)
