use Rattle.std.proofs.Common.{refl}
use Rattle.hl_nodes.proofs.OrderKeeps.{order_none}
use Rattle.hl_nodes.proofs.rule_laws.contents_in_order_have_files.Goals as goal

pub returns : goal.returns
returns r blocks g image shelf c placed label is serves = record {
  label = label;
  contents = c;
  has = is.has;
  keeps_rules = order_none g image c placed is;
  placed = placed;
  tree = is.tree;
  serves = serves;
  are = refl;
}
