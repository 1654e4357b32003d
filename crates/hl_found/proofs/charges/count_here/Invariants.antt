use Rattle.std.proofs.Common.{◌≡◌, ◌≤◌, take}
use Rattle.std.specs.Prelude.{map, count_by}
use Rattle.hl_placed.specs.Blocks.{is_here}
use Rattle.hl_nodes.specs.Found.{block_found}
use Rattle.hl_found.proofs.charges.count_here.Given as goal

abbrev pub invariant-each : goal.invariant-each
invariant-each l = record {
  count : l.count ≡ count_by is_here (map block_found (take l.i l.blocks));
  most : l.count ≤ l.i;
}
