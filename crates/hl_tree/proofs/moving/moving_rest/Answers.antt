use Rattle.std.proofs.Common.{◌≡◌, Some, None, All, sym, subst}
use Rattle.std.specs.Option.{IfSome, option_copied}
use Rattle.hl_tree.specs.Names.{IsName, AreNames, below}
use Rattle.hl_tree.proofs.NamesBelow.{All-below}
use Rattle.hl_tree.proofs.moving.moving_rest.Goals as goal

pub returns-in-None-clause-names : goal.returns-in-None-clause-names
returns-in-None-clause-names c =
    elim c.below-in-None.result as (λ o. option_copied o ≡ below c.args.from.now c.names-in-None.result.now → IfSome o (λ rest. AreNames rest.now)) [
      | None ↦ λ is. tt
      | Some rest ↦ λ is. All-below IsName c.args.from.now c.names-in-None.result.now rest.now (sym is) (subst (All IsName) (sym c.names-in-None.ensures.is) c.names-in-None.ensures.valid)
    ] c.below-in-None.ensures
