use Rattle.hl_overlaid.proofs.KeepLemmas.{room_now, room_over}
use Rattle.hl_overlaid.proofs.change_laws.to_make_room_changes_no_node.Goals as goal

pub returns-clause-nodes : goal.returns-clause-nodes
returns-clause-nodes r o room last = room_now o room last

pub returns-clause-over : goal.returns-clause-over
returns-clause-over r g image c o room over = room_over g image c o room over
