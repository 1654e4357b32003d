-- A step in which a call failed and the site runs on gave up.
use Rattle.std.proofs.Common.{◌≡◌, ◌⊎◌, None, Some, sym, ◌∙◌, inl, inr}
use Rattle.hl_addr.specs.Layout.{Layout}
use Rattle.hl_placed.specs.Blocks.{Shelf}
use Rattle.hl_model.specs.Events.{SiteEvent}
use Rattle.hl_model.specs.Steps.{State, HasBroken, HasFailed, IsGivenUp, RunsOn}
use Rattle.hl_model.specs.Units.{Middles}

module _ (g : Layout) (shelf : Shelf) (mid : Middles) (before : State) (event : SiteEvent) (after : State) (runs : after.site.stopped ≡ None) where
  running : RunsOn g before event after ⊎ HasBroken g shelf mid.segment before event after → IsGivenUp g before event after
  running (inl on) = on.given_up
  running (inr broken) = let differ : Some after.faults ≡ None = sym broken.stopped ∙ runs in cc

  -- no write failed in it
  pub failed_gives_up : HasFailed g shelf mid before event after → IsGivenUp g before event after
  failed_gives_up failed = running failed.leaves
