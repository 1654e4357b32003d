use Rattle.std.proofs.Common.{◌∙◌, ap, sym, subst, T}
use Rattle.std.specs.FinMap.{from_sorted}
use Rattle.std.specs.FinMap.Entries.{is_sorted}
use Rattle.hl_tree.specs.Contents.{written}
use Rattle.hl_tree.specs.Names.{path_cmp}
use Rattle.hl_tree.proofs.Sorted.{sorted-changed_rows, changed_view}
use Rattle.hl_tree.proofs.nodes.Nodes.write.Goals as goal

pub invariant_of-self-2 : goal.invariant_of-self-2
invariant_of-self-2 c = subst (λ es. T (is_sorted path_cmp es)) (sym c.in_ok-write_row.ensures.ok) (sorted-changed_rows c.args.path.now (λ old. written old c.args.at c.args.bytes.now) c.self.inside.rows.items c.self.invariant)

pub returns-clause-ok : goal.returns-clause-ok
returns-clause-ok c = ap from_sorted c.in_ok-write_row.ensures.ok ∙ changed_view c.self.inside.rows.items _ c.self.view_is c.self.invariant c.args.path.now (λ old. written old c.args.at c.args.bytes.now)
