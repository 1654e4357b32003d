use Rattle.std.proofs.Common.{⊎_elim, refl, sym, ◌∙◌, arith, below_more}
use Rattle.std.proofs.lemmas.Bool.{cases_lt}
use Rattle.hl_paths.proofs.Links.{none_some}
use Rattle.hl_nodes.specs.Found.{nodes_found}
use Rattle.hl_found.specs.Away.{IsApart}
use Rattle.hl_found.proofs.NodeBlocks.{past_node}
use Rattle.hl_found.proofs.AwayFound.{once_by_nodes}
use Rattle.hl_found.proofs.away.aways_are_apart.Goals as goal

pub ones-preserved : goal.ones-preserved
ones-preserved c = below_more (IsApart (nodes_found c.args.nodes.now)) c.ones.number c.ones.invariant (c.if-not-is_apart.ensures.0 refl)

pub returns : goal.returns
returns c = (
  λ yes. once_by_nodes (nodes_found c.args.nodes.now) (λ m. ⊎_elim (λ lt. c.ones.invariant m lt)
      (λ ge x e. absurd (none_some (sym (past_node c.args.nodes.now m (omega (arith, c.ones-test.false))) ∙ e))) (cases_lt m c.ones.number)),
  λ once. refl,
)
