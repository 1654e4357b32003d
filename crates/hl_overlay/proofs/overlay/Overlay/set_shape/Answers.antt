use Rattle.std.proofs.Common.{◌≡◌, Some, sym, subst}
use Rattle.hl_overlay.specs.DraftTables.{draft_of}
use Rattle.hl_overlay.specs.Overlays.{OverlayValue}
use Rattle.hl_overlay.proofs.OverlayLemmas.{shaped_named}
use Rattle.hl_overlay.proofs.overlay.Overlay.set_shape.Goals as goal

pub invariant_of-self : goal.invariant_of-self
invariant_of-self c =
    let is : draft_of c.self.inside.drafts c.args.ino ≡ Some c.requires.can.draft = subst (λ (x : OverlayValue). draft_of x.drafts c.args.ino ≡ Some c.requires.can.draft) (sym c.self.view_is) c.requires.can.is in
    record { named = shaped_named c.self.inside.drafts c.set_shape.new.self c.self.inside.blocks.items c.args.ino c.requires.can.draft c.args.shape (c.set_shape.ensures c.requires.can.draft is) is c.self.invariant.named; room = c.self.invariant.room }
