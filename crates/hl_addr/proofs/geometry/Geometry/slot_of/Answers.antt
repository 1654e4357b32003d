use Rattle.std.proofs.Common.{◌≡◌, ◌∙◌, List, ℕ, sym, ap, subst}
use Rattle.hl_addr.specs.Layout.{Layout}
use Rattle.hl_addr.specs.Slots.{HasSlot, slot_number}
use Rattle.hl_addr.proofs.SlotLemmas.{number_only}
use Rattle.hl_addr.proofs.geometry.Geometry.slot_of.Goals as goal

pub returns-clause-only : goal.returns-clause-only
returns-clause-only c = λ v s has is.
    let volumes : c.items.result.now ≡ c.args.self.now.volumes = c.items.ensures ∙ ap (λ (g : Layout). g.volumes) c.self.view_is in
    let found : HasSlot c.args.self.now.volumes c.in-Some.at.0 c.in-Some.at.1 × (slot_number c.args.self.now.volumes c.in-Some.at.0 c.in-Some.at.1 ≡ c.args.tseg) =
    subst (λ (vs : List ℕ). HasSlot vs c.in-Some.at.0 c.in-Some.at.1 × (slot_number vs c.in-Some.at.0 c.in-Some.at.1 ≡ c.args.tseg)) volumes c.in-Some.ensures.found in
    number_only c.args.self.now.volumes v s c.in-Some.at.0 c.in-Some.at.1 has found.0 (is ∙ sym found.1)
