use Rattle.hl_tree_laws.proofs.Lookups.{same_tree}
use Rattle.hl_tree_laws.proofs.look_ups_tell_a_tree.Goals as goal

pub returns : goal.returns
returns c = λ one other same. same_tree one other same
