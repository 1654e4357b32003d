use Rattle.std.proofs.Common.{⊎_elim, refl, sym, subst, arith, below_more}
use Rattle.std.specs.Prelude.{IsSome, None}
use Rattle.std.specs.List.{slice_index_or}
use Rattle.std.proofs.lemmas.List.{get_or_past}
use Rattle.std.proofs.lemmas.Bool.{cases_lt}
use Rattle.hl_paths.proofs.Links.{true_false}
use Rattle.hl_found.specs.Reach.{HasNumber}
use Rattle.hl_found.proofs.reach.all_are_reached.Goals as goal

pub numbers-preserved : goal.numbers-preserved
numbers-preserved c = below_more (λ number. IsSome (slice_index_or c.args.uses.now number None) → HasNumber number c.args.reached.now) c.numbers.number c.numbers.invariant (c.if-not-is_reached.ensures.0 refl)

pub returns : goal.returns
returns c = (
  λ yes number some. ⊎_elim (λ lt. c.numbers.invariant number lt some)
      (λ ge. absurd (true_false (sym (subst IsSome (get_or_past c.args.uses.now number None (omega (arith, c.numbers-test.false))) some)))) (cases_lt number c.numbers.number),
  λ all. refl,
)
