use Rattle.hl_overlaid.proofs.KeepLemmas.{trimmed_now, trimmed_over}
use Rattle.hl_overlaid.proofs.change_laws.to_trim_drafts_changes_no_node.Goals as goal

pub returns-clause-nodes : goal.returns-clause-nodes
returns-clause-nodes r g image c old new most is = trimmed_now g image c old new most is

pub returns-clause-over : goal.returns-clause-over
returns-clause-over r g image c old new most is = trimmed_over g image c old new most is
