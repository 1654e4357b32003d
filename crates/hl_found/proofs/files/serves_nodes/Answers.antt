use Rattle.std.proofs.Common.{⊎_elim, refl, sym, ◌∙◌, arith}
use Rattle.std.specs.Prelude.{None}
use Rattle.std.proofs.lemmas.List.{get_or_past}
use Rattle.std.proofs.lemmas.Bool.{cases_lt}
use Rattle.hl_paths.proofs.Links.{none_some}
use Rattle.hl_found.proofs.files.serves_nodes.Goals as goal

pub returns : goal.returns
returns c = (
  λ yes i n at. ⊎_elim (λ lt. c.numbers.invariant i lt n at)
      (λ ge. absurd (none_some (sym (get_or_past c.args.nodes.now i None (omega (arith, c.numbers-test.false))) ∙ at))) (cases_lt i c.numbers.number),
  λ all. refl,
)
