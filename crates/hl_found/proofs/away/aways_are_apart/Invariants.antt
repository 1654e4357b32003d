use Rattle.std.proofs.Common.{ℕ, ◌<◌}
use Rattle.hl_nodes.specs.Found.{nodes_found}
use Rattle.hl_found.specs.Away.{IsApart}
use Rattle.hl_found.proofs.away.aways_are_apart.Given as goal

abbrev pub invariant-ones : goal.invariant-ones
invariant-ones l = (m : ℕ) → m < l.number → IsApart (nodes_found l.nodes) m
