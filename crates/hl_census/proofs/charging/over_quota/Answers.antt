use Rattle.std.proofs.Common.{◌≡◌, ◌<◌, ap, refl, subst, arith}
use Rattle.hl_addr.specs.Layout.{IsWithinLimits, Layout, quota}
use Rattle.hl_paths.specs.Nodes.{Nodes, flat_charge}
use Rattle.hl_nodes.proofs.Determined.{one_nodes}
use Rattle.hl_census.proofs.charging.over_quota.Goals as goal

pub returns-then-quota-charge : goal.returns-then-quota-charge
returns-then-quota-charge c = λ image rec parts t nodes has is.
    let above : quota c.args.geometry.now < flat_charge nodes = omega (arith, is, c.quota.ensures, c.if-quota-charge.true) in
    (nodes, has, above, refl)

pub returns-else-quota-charge : goal.returns-else-quota-charge
returns-else-quota-charge c = λ image rec parts t nodes has is address broken.
    let g = c.args.geometry.now in
    let limits : IsWithinLimits g = subst (λ (l : Layout). IsWithinLimits l) c.geometry.view_is c.geometry.invariant in
    let same : flat_charge broken.0 ≡ flat_charge nodes = ap (λ (n : Nodes). flat_charge n) (one_nodes g limits image t broken.0 nodes broken.1 has) in
    omega (arith, is, same, broken.2, c.quota.ensures, c.if-quota-charge.false)
