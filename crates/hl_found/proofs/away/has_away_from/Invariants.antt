use Rattle.std.proofs.Common.{◌≡◌, ℕ, ◌<◌, ◌≤◌}
use Rattle.hl_placed.specs.Blocks.{Away, file_block}
use Rattle.hl_nodes.specs.Found.{node_found}
use Rattle.hl_found.proofs.away.has_away_from.Given as goal

abbrev pub invariant-each : goal.invariant-each
invariant-each l = (j : ℕ) → l.from ≤ j → j < l.j → file_block (node_found l.node).content j ≡ Away l.serial l.position → ⊥
