use Rattle.hl_hierarchy.proofs.Climbs.{IsClimbing, unmarked}
use Rattle.hl_hierarchy.proofs.reach.climb.Given as goal

abbrev pub invariant-up : goal.invariant-up
invariant-up l = IsClimbing l.parents l.seen l.start l.at

abbrev pub decreases-up : goal.decreases-up
decreases-up l = unmarked l.seen
