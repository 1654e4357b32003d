use Rattle.hl_order_laws.proofs.LastBlocks.{order_lines, order_nodes, order_of_ends}
use Rattle.hl_order_laws.proofs.laws.order_is_that_of_nodes.Goals as goal

pub returns : goal.returns
returns r = record { nodes = order_nodes; lines = order_lines; made = order_of_ends }
