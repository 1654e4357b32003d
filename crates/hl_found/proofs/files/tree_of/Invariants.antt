use Rattle.std.proofs.Common.{◌≡◌}
use Rattle.hl_found.specs.Files.{ArePut}
use Rattle.hl_found.specs.Shelves.{at_hand}
use Rattle.hl_found.proofs.files.tree_of.Given as goal

abbrev pub invariant-numbers : goal.invariant-numbers
invariant-numbers l = record { limits : l.tree.limits.nodes ≡ 4294967295; put : ArePut (at_hand l.staged l.shelf) l.nodes l.reached l.number l.tree.tree }
