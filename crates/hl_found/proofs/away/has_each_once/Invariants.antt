use Rattle.std.proofs.Common.{ℕ, ◌+◌, ◌<◌}
use Rattle.hl_placed.specs.Blocks.{file_block}
use Rattle.hl_nodes.specs.Found.{node_found}
use Rattle.hl_found.specs.Away.{HasSameFrom}
use Rattle.hl_found.proofs.away.has_each_once.Given as goal

abbrev pub invariant-ones : goal.invariant-ones
invariant-ones l = (i : ℕ) → i < l.i → HasSameFrom (i + 1) (file_block (node_found l.node).content i) (node_found l.node).content → ⊥
