use Rattle.std.proofs.Common.{◌≡◌, ◌++◌, take}
use Rattle.hl_dump.specs.Dumps.{path_bytes}
use Rattle.hl_dump.proofs.entry.put_path.Given as goal

abbrev pub invariant-names : goal.invariant-names
invariant-names l = l.out.items ≡ l.fn.out.items ++ path_bytes (take l.name-index l.names)
