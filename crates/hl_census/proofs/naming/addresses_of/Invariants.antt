use Rattle.std.proofs.Common.{◌≡◌, ◌++◌, take}
use Rattle.std.specs.List.{flat_map}
use Rattle.hl_census.specs.Naming.{found_addresses}
use Rattle.hl_census.proofs.naming.addresses_of.Given as goal

abbrev pub invariant-numbers : goal.invariant-numbers
invariant-numbers l = l.named.items ≡ l.tables ++ flat_map found_addresses (take l.number l.found)
