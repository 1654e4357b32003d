use Rattle.std.proofs.Common.{ℕ, subst, arith}
use Rattle.hl_trial.specs.Parts.{AreCleanTo}
use Rattle.hl_trial.proofs.stores.mounts.clean_of.Goals as goal

pub returns-clause-clean : goal.returns-clause-clean
returns-clause-clean c = let high = c.segments.invariant.1 in let end = c.segments.invariant.2 in let done = c.segments-test.false in
    subst (λ (n : ℕ). AreCleanTo c.args.head n c.segments.clean.items) (omega arith) c.segments.invariant.0
