use Rattle.std.specs.Prelude.{ℕ, ◌<◌, ◌≤◌, IsSome}
use Rattle.hl_hierarchy.specs.Naming.{at_number}
use Rattle.hl_hierarchy.specs.Climbing.{ArePassed, Climbs}
use Rattle.hl_hierarchy.proofs.reach.first_lost.Given as goal

abbrev pub invariant-numbers : goal.invariant-numbers
invariant-numbers l = record {
  passed : ArePassed l.parents l.seen l.ino;
  climb : (k : ℕ) → k < l.ino → 1 ≤ k → IsSome (at_number l.found k) → Climbs l.parents k;
}
