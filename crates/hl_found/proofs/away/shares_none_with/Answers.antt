use Rattle.std.proofs.Common.{refl}
use Rattle.hl_nodes.specs.Found.{node_found}
use Rattle.hl_found.specs.Away.{ShareNone}
use Rattle.hl_found.proofs.NodeBlocks.{some_node, by_node, no_node}
use Rattle.hl_found.proofs.away.shares_none_with.Goals as goal

pub returns-in-Some : goal.returns-in-Some
returns-in-Some c = (
  λ yes. by_node c.args.nodes.now c.args.n c.index-nodes-n.result c.requires c.index-nodes-n.is (λ x. ShareNone (node_found c.args.node.now).content x.content) c.in-Some.other c.in-Some.is (c.share_none.ensures.0 yes),
  λ all. c.share_none.ensures.1 (all (node_found c.in-Some.other) (some_node c.args.nodes.now c.args.n c.index-nodes-n.result c.requires c.index-nodes-n.is c.in-Some.other c.in-Some.is)),
)

pub returns-in-None : goal.returns-in-None
returns-in-None c = (λ yes. no_node c.args.nodes.now c.args.n c.index-nodes-n.result c.requires c.index-nodes-n.is (λ x. ShareNone (node_found c.args.node.now).content x.content) c.in-None.is, λ all. refl)
