use Rattle.std.proofs.Common.{◌≡◌, ◌+◌, ◌≤◌, drop, map, length}
use Rattle.hl_tree.specs.Names.{children}
use Rattle.hl_tree.proofs.rows.count_children.Given as goal

abbrev pub invariant-loop-row : goal.invariant-loop-row
invariant-loop-row l = (l.count ≤ l.row-index) × (l.count + length (children l.path (map (λ e. e.0) (drop l.row-index l.rows))) ≡ length (children l.path (map (λ e. e.0) l.rows)))
