use Rattle.hl_tree_laws.proofs.After.{IsTree-after}
use Rattle.hl_tree_laws.proofs.calls_leave_a_tree.Goals as goal

pub returns : goal.returns
returns c = λ limits tree is call. IsTree-after limits tree is call
