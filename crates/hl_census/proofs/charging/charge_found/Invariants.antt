use Rattle.std.proofs.Common.{◌≡◌, ◌-◌, ◌^◌, min, take}
use Rattle.std.specs.Prelude.{sum_by}
use Rattle.hl_census.specs.Charging.{found_charge}
use Rattle.hl_census.proofs.charging.charge_found.Given as goal

abbrev pub invariant-numbers : goal.invariant-numbers
invariant-numbers l = l.charge ≡ min (sum_by (found_charge l.k l.segments) (take l.number l.found)) (2 ^ 32 - 1)
