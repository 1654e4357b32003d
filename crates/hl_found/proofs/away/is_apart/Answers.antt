use Rattle.std.proofs.Common.{refl}
use Rattle.hl_nodes.specs.Found.{node_found, nodes_found}
use Rattle.hl_found.specs.Away.{HasEachOnce, SharesNoneBefore}
use Rattle.hl_found.proofs.NodeBlocks.{some_node, by_node, no_node}
use Rattle.hl_found.proofs.away.is_apart.Goals as goal

pub returns-then-has_each_once : goal.returns-then-has_each_once
returns-then-has_each_once c = (
  λ yes. by_node c.args.nodes.now c.args.number c.index-nodes-number.result c.requires c.index-nodes-number.is (λ x. HasEachOnce x.content × SharesNoneBefore (nodes_found c.args.nodes.now) c.args.number x.content) c.in-Some.node c.in-Some.is
      (c.if-has_each_once.ensures.0 refl, c.shares_none_before.ensures.0 yes),
  λ apart. c.shares_none_before.ensures.1 (apart (node_found c.in-Some.node) (some_node c.args.nodes.now c.args.number c.index-nodes-number.result c.requires c.index-nodes-number.is c.in-Some.node c.in-Some.is)).1,
)

pub returns-else-has_each_once : goal.returns-else-has_each_once
returns-else-has_each_once c = (
  λ e. absurd (let f = c.if-has_each_once.false in cc),
  λ apart. c.has_each_once.ensures.1 (apart (node_found c.in-Some.node) (some_node c.args.nodes.now c.args.number c.index-nodes-number.result c.requires c.index-nodes-number.is c.in-Some.node c.in-Some.is)).0,
)

pub returns-in-None : goal.returns-in-None
returns-in-None c = (λ yes. no_node c.args.nodes.now c.args.number c.index-nodes-number.result c.requires c.index-nodes-number.is (λ x. HasEachOnce x.content × SharesNoneBefore (nodes_found c.args.nodes.now) c.args.number x.content) c.in-None.is, λ all. refl)
