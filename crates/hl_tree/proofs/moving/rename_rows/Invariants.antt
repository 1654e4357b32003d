use Rattle.std.proofs.Common.{◌≡◌, ◌+◌, ◌≤◌, ◌++◌, take, drop, length, vec_len}
use Rattle.hl_tree.specs.Moved.{with_keys}
use Rattle.hl_tree.proofs.moving.rename_rows.Given as goal

abbrev pub invariant-paths : goal.invariant-paths
invariant-paths l = record {
  fits : l.start + length l.paths.items ≤ length l.rows.items;
  rest : take l.start l.rows.items ++ with_keys l.paths.items (drop l.start l.rows.items) ≡ take l.start l.fn.rows.items ++ with_keys l.fn.paths.items (drop l.start l.fn.rows.items);
}

abbrev pub decreases-paths : goal.decreases-paths
decreases-paths l = vec_len l.paths
