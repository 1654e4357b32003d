use Rattle.std.proofs.Common.{refl, sym, ◌∙◌, ap}
use Rattle.hl_addr.specs.Layout.{Layout}
use Rattle.hl_placed.specs.Blocks as blocks
use Rattle.hl_overlay.specs.Overlays.Holding.{Fresh}
use Rattle.hl_store.specs.Changes.{Always}
use Rattle.hl_store.proofs.BlockSteps.{block_changed, where_is_of}
use Rattle.hl_store.proofs.store.Store.put.Goals as goal

pub returns-clause-puts : goal.returns-clause-puts
returns-clause-puts g c = block_changed _ _ _ c.args.ino c.args.i (Fresh c.args.bytes.now) c.self.view_is (record {
  beside = refl;
  shaped = c.self.invariant.shape;
  whole_before = c.drafted_footing-was.ensures.whole;
  whole_now = c.drafted_footing-is.ensures.whole;
  puts = c.put-before.ensures.put;
  keeps = c.put-before.ensures.rest;
  pointers_before = c.drafted_footing-was.ensures.pointers;
  pointers_now = c.drafted_footing-is.ensures.pointers;
  counted = λ d e was is room. (
      let v = c.self.inside in
      c.change_block.ensures.counts v.log.geometry (Fresh c.args.bytes.now) d e (sym (ap (λ (l : Layout). l.k) (c.behind-self.view_is ∙ c.geometry.ensures.value))) (sym c.self.invariant.shape.live) refl (sym (c.drafted_footing-was.ensures.value d was))
      (where_is_of v.overlay.drafts c.args.ino c.args.i d c.put-before.result was c.put-before.ensures.before) (sym (c.drafted_footing-is.ensures.value e is)) room);
}) c.requires.number c.requires.block Always (blocks.Here c.args.bytes.now) (λ x. refl) (λ x allowed. tt)
