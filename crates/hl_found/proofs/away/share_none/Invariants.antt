use Rattle.std.proofs.Common.{ℕ, ◌<◌}
use Rattle.hl_placed.specs.Blocks.{file_block}
use Rattle.hl_nodes.specs.Found.{node_found}
use Rattle.hl_found.specs.Away.{HasSameFrom}
use Rattle.hl_found.proofs.away.share_none.Given as goal

abbrev pub invariant-ones : goal.invariant-ones
invariant-ones l = (i : ℕ) → i < l.i → HasSameFrom 0 (file_block (node_found l.one).content i) (node_found l.other).content → ⊥
