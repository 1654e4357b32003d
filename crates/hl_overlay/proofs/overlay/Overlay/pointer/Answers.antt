use Rattle.std.proofs.Common.{◌≡◌, ◌<◌, Some, length, sym, ◌∙◌, ap, subst, arith}
use Rattle.hl_overlay.specs.declared.draft.NodeDraft.{NodeDraft}
use Rattle.hl_overlay.specs.Drafting.{IsDraft, blocks_of_shape}
use Rattle.hl_overlay.specs.DraftTables.{draft_of}
use Rattle.hl_overlay.specs.Overlays.{OverlayValue, IsOverlay, where_in}
use Rattle.hl_overlay.proofs.TableLemmas.{blocks_most, some_same}
use Rattle.hl_overlay.proofs.OverlayLemmas.{pointer_found, named_within}
use Rattle.hl_overlay.proofs.overlay.Overlay.pointer.Goals as goal

pub get-requires-in-Some : goal.get-requires-in-Some
get-requires-in-Some c =
    let is : draft_of c.self.inside.drafts c.args.ino ≡ Some c.requires.block.draft = subst (λ (x : OverlayValue). draft_of x.drafts c.args.ino ≡ Some c.requires.block.draft) (sym c.self.view_is) c.requires.block.is in
    let same : c.in-Some.draft.now ≡ c.requires.block.draft = some_same c.in-Some.draft.now c.requires.block.draft (c.in-Some.ensures.value ∙ is) in
    let most = blocks_most c.in-Some.draft.now c.in-Some.ensures.is in
    let within : c.args.i < blocks_of_shape c.in-Some.draft.now.shape = subst (λ (x : NodeDraft). c.args.i < blocks_of_shape x.shape) (sym same) c.requires.block.within in
    omega arith

pub returns-clause-value : goal.returns-clause-value
returns-clause-value c = subst (λ (x : OverlayValue). where_in x.drafts c.args.ino c.args.i ≡ Some c.get-in-Some.result) c.self.view_is
    (pointer_found c.self.inside.drafts c.args.ino c.args.i c.in-Some.draft.now c.in-Some.ensures.value ∙ ap Some (sym c.get-in-Some.ensures.value))

pub returns-clause-draft : goal.returns-clause-draft
returns-clause-draft c d is =
    let at : draft_of c.self.inside.drafts c.args.ino ≡ Some d = subst (λ (x : OverlayValue). draft_of x.drafts c.args.ino ≡ Some d) (sym c.self.view_is) is in
    let same : c.in-Some.draft.now ≡ d = some_same c.in-Some.draft.now d (c.in-Some.ensures.value ∙ at) in
    let block : c.requires.block.draft ≡ d = some_same c.requires.block.draft d (sym c.requires.block.is ∙ is) in
    let draft : IsDraft d = subst IsDraft same c.in-Some.ensures.is in
    let most = blocks_most d draft in
    let within : c.args.i < blocks_of_shape d.shape = subst (λ (x : NodeDraft). c.args.i < blocks_of_shape x.shape) block c.requires.block.within in
    let small : c.args.i < 1036 = omega arith in
    (draft, subst (λ (x : NodeDraft). length x.pointers ≡ 1036) same c.get-in-Some.ensures.count, small)

pub returns-clause-named : goal.returns-clause-named
returns-clause-named c n new =
    let low : c.args.ino < length c.self.inside.drafts.places = subst (λ (x : OverlayValue). c.args.ino < length x.drafts.places) (sym c.self.view_is) c.requires.number in
    subst (λ (x : OverlayValue). n < length x.blocks) c.self.view_is
    (named_within (length c.self.inside.drafts.places) (where_in c.self.inside.drafts) _ c.self.invariant.named c.args.ino c.args.i n low
    (pointer_found c.self.inside.drafts c.args.ino c.args.i c.in-Some.draft.now c.in-Some.ensures.value ∙ ap Some (sym c.get-in-Some.ensures.value ∙ new)))

pub returns-clause-is : goal.returns-clause-is
returns-clause-is c = subst IsOverlay c.self.view_is c.self.invariant.named
