use Rattle.hl_census.specs.LastUses.{AreUses}
use Rattle.hl_census.proofs.last_uses.uses.Given as goal

abbrev pub invariant-numbers : goal.invariant-numbers
invariant-numbers l = AreUses l.found l.number l.uses.items
