use Rattle.std.proofs.Common.{◌≡◌, ◌++◌, take}
use Rattle.std.specs.Prelude.{filter}
use Rattle.hl_census.specs.Naming.{is_address}
use Rattle.hl_census.proofs.naming.push_addresses.Given as goal

abbrev pub invariant-addresses : goal.invariant-addresses
invariant-addresses l = l.named.items ≡ l.fn.named.items ++ filter is_address (take l.address-index l.addresses)
