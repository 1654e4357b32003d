use Rattle.hl_overlaid.proofs.KeepLemmas.{admitted_now, admitted_over}
use Rattle.hl_overlaid.proofs.change_laws.to_admit_a_draft_changes_no_node.Goals as goal

pub returns-clause-nodes : goal.returns-clause-nodes
returns-clause-nodes r g image c old new d is = admitted_now g image c old new d is

pub returns-clause-over : goal.returns-clause-over
returns-clause-over r g image c old new d is = admitted_over g image c old new d is
