use Rattle.std.proofs.Common.{ap, ◌∙◌}
use Rattle.hl_addr.specs.Layout.{Layout, quota}
use Rattle.hl_store.specs.Values.{layout}
use Rattle.hl_calls.proofs.ChargeSums.{over_growing, over_shrinking}
use Rattle.hl_calls.proofs.quota.is_over.Goals as goal

pub returns-then-growth : goal.returns-then-growth
returns-then-growth g c = λ after grows.
    over_growing (quota (layout c.args.store.now)) c.args.store.now.tally.charge c.args.growth.now.added c.args.growth.now.removed after c.quota.result c.charge.result
    (c.quota.ensures ∙ ap (λ (site : Layout). quota site) c.geometry.ensures.is) c.charge.ensures grows c.if-growth.true

pub returns-else-growth : goal.returns-else-growth
returns-else-growth g c = λ after grows.
    over_shrinking (quota (layout c.args.store.now)) c.args.store.now.tally.charge c.args.growth.now.added c.args.growth.now.removed after grows c.if-growth.false
