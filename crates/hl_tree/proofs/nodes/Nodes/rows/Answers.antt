use Rattle.std.proofs.Common.{◌∙◌, sym}
use Rattle.hl_tree.proofs.Sorted.{entries_view}
use Rattle.hl_tree.proofs.nodes.Nodes.rows.Goals as goal

pub returns : goal.returns
returns c = c.as_slice.ensures.value ∙ sym (entries_view _ _ c.self.view_is c.self.invariant)
