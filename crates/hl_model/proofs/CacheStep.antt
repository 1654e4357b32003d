-- A step in which no write failed keeps what holds of lines, slots and jobs.
use Rattle.std.proofs.Common.{◌≡◌, ◌-◌, ◌^◌, ◌<◌, None, Ok, Err, ap, sym, subst}
use Rattle.hl_addr.specs.Layout.{Layout}
use Rattle.hl_placed.specs.Blocks.{Shelf}
use Rattle.hl_model.specs.Allowed.{IsAllowed}
use Rattle.hl_model.specs.Answers.{SiteAnswer}
use Rattle.hl_model.specs.Answers as answers
use Rattle.hl_model.specs.Cache.{IsCache}
use Rattle.hl_model.specs.Events.{SiteEvent, EndJob}
use Rattle.hl_model.specs.Ruled.{Ruled, told_of}
use Rattle.hl_model.specs.Rules.{rules}
use Rattle.hl_model.specs.Site.{SiteState}
use Rattle.hl_model.specs.Units.{Middles}
use Rattle.hl_model.proofs.Failing.{failed_gives_up}
use Rattle.hl_model.specs.Steps.{State, SiteStep, IsRuled, IsGivenUp, given_up}
use Rattle.hl_model.proofs.CacheSteps.{Keeps, cache-over, keeps_rules}

module _ (g : Layout) (shelf : Shelf) (mid : Middles) (before : State) (event : SiteEvent) (after : State) (cache : IsCache g before.site) (allowed : IsAllowed before.site event) (room : before.site.next_serial < 2 ^ 64 - 1) (runs : after.site.stopped ≡ None) where
  by_told : (answer : SiteAnswer) (told : Ruled) → Keeps g before.site cache told → told_of before.site told ≡ (answer, after.site) → IsCache g after.site
  by_told answer (Ok told) keeps e = keeps answer after.site (ap Ok e)
  by_told answer (Err why) keeps e = subst (λ (p : SiteAnswer × SiteState). IsCache g p.1) e cache

  by_rules : (answer : SiteAnswer) → IsRuled g shelf mid before event answer after → IsCache g after.site
  by_rules answer told = by_told answer (rules g before.site mid.first shelf event) (keeps_rules g before.site cache room mid.first shelf event allowed) told.told

  left_by : (event : SiteEvent) → IsAllowed before.site event → IsCache g (given_up g before.site event)
  left_by (EndJob job) back = cache-over g before.site cache job back
  left_by event allowed = cache

  gives_up : IsGivenUp g before event after → IsCache g after.site
  gives_up up = subst (IsCache g) (sym up.left) (left_by event allowed)

  pub step_keeps_cache : (answer : SiteAnswer) → SiteStep g shelf mid before event answer after → IsCache g after.site
  step_keeps_cache answers.Memory (may, step) = gives_up step
  step_keeps_cache answers.LogFull (full, step) = gives_up step
  step_keeps_cache answers.Eio step = gives_up (failed_gives_up g shelf mid before event after runs step)
  step_keeps_cache answer step = by_rules answer step
