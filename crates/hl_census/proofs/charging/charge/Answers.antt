use Rattle.std.proofs.Common.{◌≡◌, ◌-◌, ◌^◌, min, subst}
use Rattle.std.specs.Prelude.{sum_by}
use Rattle.hl_addr.specs.Layout.{IsWithinLimits, Layout}
use Rattle.hl_census.specs.Charging.{found_charge}
use Rattle.hl_census.proofs.FoundCharges.{charge_is}
use Rattle.hl_census.proofs.charging.charge.Goals as goal

pub returns : goal.returns
returns c = λ image t nodes are has.
    let g = c.args.geometry.now in
    let found = c.args.found.now in
    let limits : IsWithinLimits g = subst (λ (l : Layout). IsWithinLimits l) c.geometry.view_is c.geometry.invariant in
    charge_is g limits image t found are nodes has c.charge_found.result
    (subst (λ (l : Layout). c.charge_found.result ≡ min (sum_by (found_charge l.k l.log) found) (2 ^ 32 - 1)) c.geometry.view_is c.charge_found.ensures)
