use Rattle.std.proofs.Common.{◌≡◌, ◌++◌, drop, map}
use Rattle.hl_tree.specs.Names.{children}
use Rattle.hl_tree.proofs.rows.children_of.Given as goal

abbrev pub invariant-loop-row : goal.invariant-loop-row
invariant-loop-row l = l.names.items ++ children l.path (map (λ e. e.0) (drop l.row-index l.rows)) ≡ children l.path (map (λ e. e.0) l.rows)
