use Rattle.std.proofs.Common.{subst, arith}
use Rattle.hl_addr.specs.Layout.{IsWithinLimits, Layout}
use Rattle.hl_census.proofs.Strays.{none_ahead}
use Rattle.hl_census.proofs.straying.part_ahead.Goals as goal

pub returns-else-at-behind : goal.returns-else-at-behind
returns-else-at-behind c = λ rec parts covers.
    let g = c.args.geometry.now in
    let limits : IsWithinLimits g = subst (λ (l : Layout). IsWithinLimits l) c.geometry.view_is c.geometry.invariant in
    none_ahead g limits c.args.at c.requires.at rec parts c.args.covered.now covers (omega (arith, c.if-at-behind.false))
