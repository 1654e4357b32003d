use Rattle.std.proofs.Common.{sym, ap, ◌∙◌}
use Rattle.std.specs.Prelude.{is_some, None}
use Rattle.std.proofs.lemmas.List.{get_or_default}
use Rattle.hl_found.proofs.reach.is_reached.Goals as goal

pub returns-in-Some : goal.returns-in-Some
returns-in-Some c = (
  λ yes some. c.has_number.ensures.0 yes,
  λ all. c.has_number.ensures.1 (all (ap is_some (get_or_default c.args.uses.now c.args.number None c.index-uses-number.result c.requires ∙ sym c.index-uses-number.is ∙ c.in-Some.is))),
)
