use Rattle.std.proofs.Common.{◌≡◌, ◌+◌, take}
use Rattle.std.specs.Prelude.{sum_by}
use Rattle.hl_found.specs.Charges.{charge_found}
use Rattle.hl_found.proofs.charges.charge_is_within.Given as goal

abbrev pub invariant-each : goal.invariant-each
invariant-each l = l.left + sum_by charge_found (take l.number l.nodes) ≡ l.quota
