use Rattle.std.proofs.Common.{◌≡◌, take}
use Rattle.std.specs.List.{fold}
use Rattle.hl_tally.specs.Counting.{added}
use Rattle.hl_census.proofs.numbers.add_all.Given as goal

abbrev pub invariant-addresses : goal.invariant-addresses
invariant-addresses l = l.live ≡ fold (added l.k) l.fn.live (take l.address-index l.addresses)
