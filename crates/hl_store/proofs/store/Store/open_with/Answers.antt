use Rattle.std.proofs.Common.{refl, ◌∙◌, subst}
use Rattle.hl_addr.specs.Layout.{Layout}
use Rattle.hl_overlay.specs.Overlays.{IsEmpty}
use Rattle.hl_store.proofs.OpenLemmas.{opened_so}
use Rattle.hl_store.proofs.store.Store.open_with.Goals as goal

pub returns-clause-over : goal.returns-clause-over
returns-clause-over g c contents s found =
    opened_so c.args.log c.args.parts c.requires.parts c.in-Ok.overlay (subst (λ (x : Layout). IsEmpty x.inodes c.in-Ok.overlay) (c.behind-log.view_is ∙ c.geometry.ensures.value) c.in-Ok.ensures) c.flags_of.result.items c.flags_of.ensures.flags c.new-2.result.items c.new-2.ensures.items c.of.result c.of-in_use.result c.of.ensures c.of-in_use.ensures contents s found _ _ refl
