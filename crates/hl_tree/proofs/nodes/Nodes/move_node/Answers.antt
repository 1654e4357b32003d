use Rattle.std.proofs.Common.{◌∙◌}
use Rattle.hl_tree.proofs.Sorted.{view_entries, entries-moved, sorted_entries}
use Rattle.hl_tree.proofs.nodes.Nodes.move_node.Goals as goal

pub invariant_of-self-2 : goal.invariant_of-self-2
invariant_of-self-2 c = sorted_entries _ _ (c.in_ok-move_rows.ensures.ok ∙ entries-moved c.self.inside.rows.items _ c.self.view_is c.self.invariant c.args.from.now c.args.to.now)

pub returns-clause-ok : goal.returns-clause-ok
returns-clause-ok c = view_entries _ _ (c.in_ok-move_rows.ensures.ok ∙ entries-moved c.self.inside.rows.items _ c.self.view_is c.self.invariant c.args.from.now c.args.to.now)
