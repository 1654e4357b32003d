use Rattle.std.proofs.Common.{◌<◌, length, sym, subst, refl}
use Rattle.hl_overlay.specs.declared.draft.NodeDraft.{NodeDraft}
use Rattle.std.proofs.lemmas.Option.{slice_get_read}
use Rattle.hl_overlay.proofs.TrimLemmas.{placed_one}
use Rattle.hl_overlay.proofs.drafts.place_all.Goals as goal

pub places-preserved : goal.places-preserved
places-preserved c = placed_one c.places.k c.args.drafts.now c.args.places.now.items c.places.places.items _ c.index-drafts-k.result c.places.invariant c.requires.apart (slice_get_read c.args.drafts.now _ c.places.k c.index-drafts-k.result refl c.places-test.true c.index-drafts-k.is)
    (let within : c.index-drafts-k.result.ino < length c.args.places.now.items = subst (λ (d : NodeDraft). d.ino < length c.args.places.now.items) (sym c.index-drafts-k.is) (c.requires.within c.places.k c.index-drafts-k.result c.places-test.true) in subst (λ n. c.index-drafts-k.result.ino < n) (sym c.places.invariant.count) within) refl
