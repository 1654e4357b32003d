use Rattle.hl_overlaid.proofs.BehindLemmas.{over_none}
use Rattle.hl_overlaid.proofs.NowLemmas.{now_none}
use Rattle.hl_overlaid.proofs.now_laws.without_drafts_the_nodes_are_the_last.Goals as goal

pub returns-clause-nodes : goal.returns-clause-nodes
returns-clause-nodes r o last none = now_none o last none

pub returns-clause-over : goal.returns-clause-over
returns-clause-over r g o image c none slots = over_none g o image c none slots
