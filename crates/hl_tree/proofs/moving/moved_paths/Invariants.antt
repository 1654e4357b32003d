use Rattle.std.proofs.Common.{◌≡◌, ◌++◌, drop}
use Rattle.hl_tree.specs.Moved.{kept_rows, moving_rows, moved_keys}
use Rattle.hl_tree.proofs.moving.moved_paths.Given as goal

abbrev pub invariant-loop-row : goal.invariant-loop-row
invariant-loop-row l = l.paths.items ++ moved_keys l.from l.to (moving_rows l.from (kept_rows l.to (drop l.row-index l.rows))) ≡ moved_keys l.from l.to (moving_rows l.from (kept_rows l.to l.rows))
