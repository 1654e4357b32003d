use Rattle.hl_overlaid.proofs.UseLemmas.{slots_now, slots_over}
use Rattle.hl_overlaid.proofs.change_laws.to_note_slots_changes_no_node.Goals as goal

pub returns-clause-nodes : goal.returns-clause-nodes
returns-clause-nodes r o slots last = slots_now o slots last

pub returns-clause-over : goal.returns-clause-over
returns-clause-over r g image c o slots whole over keeps = slots_over g image c o whole over slots keeps
