use Rattle.std.proofs.Common.{ap, ◌∙◌, sym, subst}
use Rattle.std.specs.FinMap.Entries.{find}
use Rattle.hl_tree.specs.Names.{path_cmp}
use Rattle.hl_tree.specs.Places.{InOrder}
use Rattle.hl_tree.proofs.Sorted.{get_view}
use Rattle.hl_tree.proofs.nodes.Nodes.get.Goals as goal

pub returns : goal.returns
returns c = c.row_at.ensures ∙ ap (find path_cmp c.args.path.now) c.as_slice.ensures.value ∙ get_view _ _ c.self.view_is c.self.invariant _

pub row_at-requires : goal.row_at-requires
row_at-requires c = subst InOrder (sym c.as_slice.ensures.value) c.self.invariant
