use Rattle.std.proofs.Common.{[]}
use Rattle.std.specs.Prelude.{Contains}
use Rattle.hl_found.specs.Reach.{AreClosed, AreReached, OfUses, at_path}
use Rattle.hl_found.proofs.reach.reach_all.Given as goal

abbrev pub invariant-places : goal.invariant-places
invariant-places l = OfUses l.uses (λ numbered. AreReached numbered l.fn.reached.items → Contains l.fn.reached.items (at_path [] 1) → AreClosed numbered l.reached.items l.at)
