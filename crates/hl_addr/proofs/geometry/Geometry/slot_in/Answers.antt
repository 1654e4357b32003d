use Rattle.std.proofs.Common.{◌∙◌, ◌/◌, ap, subst}
use Rattle.hl_addr.specs.Layout.{Layout, IsWithinLimits}
use Rattle.hl_addr.specs.Place.{top}
use Rattle.hl_addr.proofs.SegmentLemmas.{top_is}
use Rattle.hl_addr.proofs.PlaceLemmas.{slot_found}
use Rattle.hl_addr.proofs.geometry.Geometry.slot_in.Goals as goal

pub returns-in-Some-clause-found : goal.returns-in-Some-clause-found
returns-in-Some-clause-found c =
    slot_found c.args.self.now c.items.result.now c.items-in-Some.result.now c.args.segment c.in-Some.volume c.in-Some.above (4294967295 / c.self.inside.k)
    (subst (λ (g : Layout). IsWithinLimits g) c.self.view_is c.self.invariant)
    (c.items.ensures ∙ ap (λ (g : Layout). g.volumes) c.self.view_is)
    (c.items-in-Some.ensures ∙ ap (λ (g : Layout). g.volumes) c.self.view_is)
    (top_is c.self.inside.k c.self.invariant.segment_size ∙ ap (λ (g : Layout). top g) c.self.view_is)
    c.requires
    c.if-segment-top.false
    c.in-Some.ensures.found
