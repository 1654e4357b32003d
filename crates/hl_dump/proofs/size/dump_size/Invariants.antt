use Rattle.std.proofs.Common.{◌≡◌, ◌-◌, ◌^◌, min, take}
use Rattle.std.specs.List.{sum_by}
use Rattle.hl_dump.specs.Sizes.{entry_size}
use Rattle.hl_dump.proofs.size.dump_size.Given as goal

abbrev pub invariant-rows : goal.invariant-rows
invariant-rows l = l.size ≡ min (sum_by entry_size (take l.row-index l.row-items)) (2 ^ 64 - 1)
