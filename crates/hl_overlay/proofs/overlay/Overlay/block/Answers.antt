use Rattle.std.proofs.Common.{rules, ◌≡◌, ◌<◌, Some, length, sym, ◌∙◌, ap, subst}
use Rattle.hl_overlay.specs.declared.pointers.Pointer.TheVariants.{New}
use Rattle.hl_overlay.specs.Overlays.{OverlayValue, holding, where_in}
use Rattle.hl_overlay.specs.Overlays.Holding.{Fresh}
use Rattle.hl_overlay.proofs.OverlayLemmas.{pointer_found, named_within, fresh_at}
use Rattle.hl_overlay.proofs.overlay.Overlay.block.Goals as goal

pub index-requires : goal.index-requires
index-requires c =
    let low : c.args.ino < length c.self.inside.drafts.places = subst (λ (x : OverlayValue). c.args.ino < length x.drafts.places) (sym c.self.view_is) c.requires.number in
    let lt = named_within (length c.self.inside.drafts.places) (where_in c.self.inside.drafts) _ c.self.invariant.named c.args.ino c.args.i c.in-New.n low
    (pointer_found c.self.inside.drafts c.args.ino c.args.i c.in_ok-get.field-0.now c.in_ok-get.ensures.value ∙ ap Some (sym c.in-New.ensures.value)) in
    search rules

pub returns-in-New-clause-now : goal.returns-in-New-clause-now
returns-in-New-clause-now c =
    let low : c.args.ino < length c.self.inside.drafts.places = subst (λ (x : OverlayValue). c.args.ino < length x.drafts.places) (sym c.self.view_is) c.requires.number in
    let at : where_in c.self.inside.drafts c.args.ino c.args.i ≡ Some (New c.in-New.n) = pointer_found c.self.inside.drafts c.args.ino c.args.i c.in_ok-get.field-0.now c.in_ok-get.ensures.value ∙ ap Some (sym c.in-New.ensures.value) in
    let lt = named_within (length c.self.inside.drafts.places) (where_in c.self.inside.drafts) _ c.self.invariant.named c.args.ino c.args.i c.in-New.n low at in
    subst (λ (x : OverlayValue). holding x c.args.ino c.args.i ≡ Some (Fresh c.index.result.now.1.bytes)) c.self.view_is
    (fresh_at c.self.inside.drafts c.self.inside.blocks.items c.args.ino c.args.i c.in-New.n c.index.result.now at lt c.index.ensures)
