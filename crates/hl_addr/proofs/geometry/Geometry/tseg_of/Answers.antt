use Rattle.std.proofs.Common.{◌≡◌, ◌∙◌, ◌+◌, List, ℕ, sum, take, ap}
use Rattle.hl_addr.specs.Layout.{Layout}
use Rattle.hl_addr.proofs.SlotLemmas.{number_only}
use Rattle.hl_addr.proofs.geometry.Geometry.tseg_of.Goals as goal

pub returns-clause-back : goal.returns-clause-back
returns-clause-back c = λ v s has is.
    let volumes : c.items.result.now ≡ c.args.self.now.volumes = c.items.ensures ∙ ap (λ (g : Layout). g.volumes) c.self.view_is in
    number_only c.args.self.now.volumes v s c.args.volume c.args.slot has c.requires
    (is ∙ ap (λ (n : ℕ). n + c.args.slot) (c.slots_before.ensures.total ∙ ap (λ (vs : List ℕ). sum (take c.args.volume vs)) volumes))
