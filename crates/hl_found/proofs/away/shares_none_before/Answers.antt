use Rattle.std.proofs.Common.{refl, arith, below_more}
use Rattle.hl_nodes.specs.Found.{node_found, nodes_found}
use Rattle.hl_found.specs.Away.{SharesNoneWith}
use Rattle.hl_found.proofs.away.shares_none_before.Goals as goal

pub returns-then-not-shares_none_with : goal.returns-then-not-shares_none_with
returns-then-not-shares_none_with c = (λ e. absurd (cc), λ all. c.if-not-shares_none_with.ensures.1 (all c.others.n c.others-test.true))

pub others-preserved : goal.others-preserved
others-preserved c = below_more (λ n. SharesNoneWith (nodes_found c.args.nodes.now) n (node_found c.args.node.now).content) c.others.n c.others.invariant (c.if-not-shares_none_with.ensures.0 refl)

pub returns : goal.returns
returns c = (λ yes n lt. c.others.invariant n (omega (arith, c.others-test.false)), λ all. refl)
