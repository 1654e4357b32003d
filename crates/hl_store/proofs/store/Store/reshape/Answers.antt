use Rattle.std.proofs.Common.{◌≡◌, Some, ◌∙◌, ap, sym, subst}
use Rattle.hl_addr.specs.Layout.{Layout}
use Rattle.hl_overlaid.proofs.NowLemmas.{one}
use Rattle.hl_overlay.specs.declared.draft.NodeDraft.{NodeDraft}
use Rattle.hl_overlay.specs.DraftTables.{CanShape, draft_of}
use Rattle.hl_overlaid.specs.Changes.{KeepsKind}
use Rattle.hl_store.specs.Values.{StoreValue}
use Rattle.hl_store.specs.Shapes.{IsNumber}
use Rattle.hl_store.proofs.ShapeChanges.{reshapes}
use Rattle.hl_store.proofs.store.Store.reshape.Goals as goal

pub returns-clause-shape : goal.returns-clause-shape
returns-clause-shape g c =
    let can = subst (λ (x : StoreValue g.row.M.Denot). CanShape x.overlay.drafts c.args.ino c.args.shape) (sym c.self.view_is) c.requires.can in
    let kind = subst (λ (x : StoreValue g.row.M.Denot). (d : NodeDraft) → draft_of x.overlay.drafts c.args.ino ≡ Some d → KeepsKind d c.args.shape) (sym c.self.view_is) c.requires.kind in
    let number = subst (λ (x : StoreValue g.row.M.Denot). IsNumber x c.args.ino) (sym c.self.view_is) c.requires.number in
    rw (← c.self.view_is) (reshapes _ c.self.invariant.shape c.draft.ensures.whole c.args.ino number c.args.shape can kind
    c.set_shape.new.self c.tell_whole.ensures c.set_shape.ensures.drafts c.set_shape.ensures.blocks c.set_shape.ensures.room c.change_shape.new.self
    (λ d at room. c.change_shape.ensures.counts c.self.inside.log.geometry d (ap (λ (l : Layout). l.k) (sym (c.behind-self.view_is ∙ c.geometry.ensures.value))) (sym (c.drafted_footing-was.ensures.value d at))
    (ap (λ (x : NodeDraft). x.shape) (one at (sym c.in-Some.ensures.value))) room))
