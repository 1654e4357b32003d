use Rattle.std.proofs.Common.{refl, sym, ◌∙◌, ap}
use Rattle.hl_addr.specs.Layout.{Layout}
use Rattle.hl_placed.specs.Blocks as blocks
use Rattle.hl_overlay.specs.Overlays.Holding.{Zeros}
use Rattle.hl_store.specs.Changes.{Always}
use Rattle.hl_store.proofs.BlockSteps.{block_changed, where_is_of}
use Rattle.hl_store.proofs.store.Store.clear.Goals as goal

pub returns-clause-puts : goal.returns-clause-puts
returns-clause-puts g c = block_changed _ _ _ c.args.ino c.args.i Zeros c.self.view_is (record {
  beside = refl;
  shaped = c.self.invariant.shape;
  whole_before = c.drafted_footing-was.ensures.whole;
  whole_now = c.drafted_footing-is.ensures.whole;
  puts = c.clear-before.ensures.put;
  keeps = c.clear-before.ensures.rest;
  pointers_before = c.drafted_footing-was.ensures.pointers;
  pointers_now = c.drafted_footing-is.ensures.pointers;
  counted = λ d e was is room. (
      let v = c.self.inside in
      c.change_block.ensures.counts v.log.geometry Zeros d e (sym (ap (λ (l : Layout). l.k) (c.behind-self.view_is ∙ c.geometry.ensures.value))) (sym c.self.invariant.shape.live) refl (sym (c.drafted_footing-was.ensures.value d was))
      (where_is_of v.overlay.drafts c.args.ino c.args.i d c.clear-before.result was c.clear-before.ensures.before) (sym (c.drafted_footing-is.ensures.value e is)) room);
}) c.requires.number c.requires.block Always blocks.Hole (λ x. refl) (λ x allowed. tt)
