use Rattle.hl_overlay.specs.Clearing.{IsPlacedTo}
use Rattle.hl_overlay.proofs.drafts.place_all.Given as goal

abbrev pub invariant-places : goal.invariant-places
invariant-places l = IsPlacedTo l.k l.drafts l.fn.places.items l.places.items
