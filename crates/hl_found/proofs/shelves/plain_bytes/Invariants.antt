use Rattle.std.proofs.Common.{◌≡◌, ◌/◌, ◌%◌}
use Rattle.hl_placed.specs.Blocks.{byte_of, file_block, listed}
use Rattle.hl_nodes.specs.Found.{node_found}
use Rattle.hl_found.specs.Shelves.{at_hand}
use Rattle.hl_found.proofs.shelves.plain_bytes.Given as goal

abbrev pub invariant-each : goal.invariant-each
invariant-each l = l.bytes.items ≡ listed l.j (λ j. byte_of (at_hand l.staged l.shelf) (file_block (node_found l.node).content (j / 4096)) (j % 4096))
