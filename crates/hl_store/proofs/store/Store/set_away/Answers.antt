use Rattle.std.proofs.Common.{◌≡◌, ℕ, refl, sym, ◌∙◌, ap, subst}
use Rattle.hl_addr.specs.Layout.{Layout}
use Rattle.hl_placed.specs.Blocks as blocks
use Rattle.hl_inode.specs.declared.inode.Kind.TheVariants.{File}
use Rattle.hl_overlay.specs.Overlays.Holding.{GoesAway}
use Rattle.hl_overlay.specs.declared.draft.NodeDraft.{NodeDraft}
use Rattle.hl_overlaid.specs.Changes.{KeepsSerial}
use Rattle.std.specs.Option.{ForSome}
use Rattle.hl_overlaid.proofs.NowLemmas.{one}
use Rattle.hl_store.specs.Changes.{StaysIn}
use Rattle.hl_store.proofs.BlockSteps.{block_changed, where_is_of}
use Rattle.hl_store.proofs.store.Store.set_away.Goals as goal

pub set_away-before-requires-clause-address : goal.set_away-before-requires-clause-address
set_away-before-requires-clause-address g c = c.segment_at-serial.ensures.there

pub returns-clause-puts : goal.returns-clause-puts
returns-clause-puts g c = λ serial position lies. (
    let old = c.args.self.now in
    let s = c.segment_at-serial.result.0 in
    let p = c.segment_at-serial.result.1 in
    let same : (serial ≡ s) × (position ≡ p) = c.segment_at-serial.ensures.only serial position lies in
    block_changed _ _ _ c.args.ino c.args.i (GoesAway c.args.addr s p) c.self.view_is (record {
      beside = refl;
      shaped = c.self.invariant.shape;
      whole_before = c.drafted_footing-was.ensures.whole;
      whole_now = c.drafted_footing-is.ensures.whole;
      puts = c.set_away-before.ensures.put;
      keeps = c.set_away-before.ensures.rest;
      pointers_before = c.drafted_footing-was.ensures.pointers;
      pointers_now = c.drafted_footing-is.ensures.pointers;
      counted = λ d e was is room. (
          let v = c.self.inside in
          c.change_block.ensures.counts v.log.geometry (GoesAway c.args.addr s p) d e (sym (ap (λ (l : Layout). l.k) (c.behind-self.view_is ∙ c.geometry.ensures.value))) (sym c.self.invariant.shape.live) refl
          (sym (c.drafted_footing-was.ensures.value d was)) (where_is_of v.overlay.drafts c.args.ino c.args.i d c.set_away-before.result was c.set_away-before.ensures.before) (sym (c.drafted_footing-is.ensures.value e is)) room);
    }) c.requires.number c.requires.block (StaysIn old serial) (blocks.Away serial position)
    (λ x. ap (λ (n : ℕ). blocks.Away n p) (sym same.0) ∙ ap (blocks.Away serial) (sym same.1))
    (λ x allowed. (
      record {
        file = subst (λ (d : NodeDraft). ForSome d.shape (λ shape. shape.kind ≡ File)) (one c.requires.away.is c.requires.block.is) c.requires.away.file;
        lies = c.segment_at-serial.ensures.lies;
      },
      subst (KeepsSerial x.tables.slots old.tables.slots) same.0 allowed,
    )))
