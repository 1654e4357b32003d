use Rattle.std.proofs.Common.{rules, is_none, subst, sym, T}
use Rattle.std.proofs.lemmas.Fn.{filter_same}
use Rattle.std.specs.FinMap.Entries.{is_sorted, is_sorted-where_key}
use Rattle.hl_tree.specs.Names.{path_cmp, below}
use Rattle.hl_tree.proofs.moving.drop_rows.Goals as goal

pub returns-clause-rows : goal.returns-clause-rows
returns-clause-rows c = filter_same _ (λ e. is_none (below c.args.path.now e.0)) _ (λ x b f' k. search rules) _ _ c.retain.ensures.filtered

pub returns-clause-order : goal.returns-clause-order
returns-clause-order c order = subst (λ es. T (is_sorted path_cmp es)) (sym (returns-clause-rows c)) (is_sorted-where_key path_cmp (λ key. is_none (below c.args.path.now key)) c.args.rows.now.items order)
