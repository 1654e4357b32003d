use Rattle.std.proofs.Common.{◌≡◌, ◌-◌, ◌^◌, min, take}
use Rattle.hl_tree.specs.Names.{path_length}
use Rattle.hl_dump.proofs.entry.path_len.Given as goal

abbrev pub invariant-names : goal.invariant-names
invariant-names l = l.total ≡ min (path_length (take l.name-index l.names)) (2 ^ 64 - 1)
