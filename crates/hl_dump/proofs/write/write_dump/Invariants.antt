use Rattle.std.proofs.Common.{◌≡◌, ◌++◌, take}
use Rattle.std.specs.List.{flat_map}
use Rattle.hl_dump.specs.Dumps.{entry_bytes}
use Rattle.hl_dump.proofs.write.write_dump.Given as goal

abbrev pub invariant-rows : goal.invariant-rows
invariant-rows l = l.out.items ≡ l.fn.out.items ++ flat_map entry_bytes (take l.row-index l.row-items)
