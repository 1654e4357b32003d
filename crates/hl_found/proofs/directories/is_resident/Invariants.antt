use Rattle.std.proofs.Common.{ℕ, ◌<◌}
use Rattle.hl_placed.specs.Blocks.{file_block}
use Rattle.hl_nodes.specs.Found.{node_found}
use Rattle.hl_found.specs.Directories.{IsWhole}
use Rattle.hl_found.proofs.directories.is_resident.Given as goal

abbrev pub invariant-each : goal.invariant-each
invariant-each l = (i : ℕ) → i < l.i → IsWhole (file_block (node_found l.node).content i)
