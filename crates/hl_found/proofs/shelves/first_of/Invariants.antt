use Rattle.hl_found.specs.Shelves.{NoneBefore}
use Rattle.hl_found.proofs.shelves.first_of.Given as goal

abbrev pub invariant-each : goal.invariant-each
invariant-each l = NoneBefore l.held l.serial l.i
