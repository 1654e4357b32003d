use Rattle.std.proofs.Common.{ℕ, ◌<◌}
use Rattle.hl_nodes.specs.Found.{node_found, nodes_found}
use Rattle.hl_found.specs.Away.{SharesNoneWith}
use Rattle.hl_found.proofs.away.shares_none_before.Given as goal

abbrev pub invariant-others : goal.invariant-others
invariant-others l = (n : ℕ) → n < l.n → SharesNoneWith (nodes_found l.nodes) n (node_found l.node).content
