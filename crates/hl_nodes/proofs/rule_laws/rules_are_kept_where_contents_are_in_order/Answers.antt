use Rattle.hl_nodes.proofs.OrderKeeps.{order_keeps}
use Rattle.hl_nodes.proofs.OrderMade.{order_made}
use Rattle.hl_nodes.proofs.rule_laws.rules_are_kept_where_contents_are_in_order.Goals as goal

pub returns : goal.returns
returns r = record {
  made = λ g image is. order_made g image is;
  kept = λ g image c placed is. order_keeps g image c placed is;
}
