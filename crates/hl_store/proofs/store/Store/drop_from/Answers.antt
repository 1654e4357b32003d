use Rattle.std.proofs.Common.{◌≡◌, ◌<◌, ◌≤◌, Some, sym, subst, arith}
use Rattle.hl_overlay.specs.DraftTables.{draft_of}
use Rattle.hl_overlay.specs.Drafting.{blocks_of_shape}
use Rattle.hl_overlay.specs.Overlays.{IsWholeOverlay}
use Rattle.hl_store.specs.Values.{StoreValue, layout}
use Rattle.hl_store.proofs.DropSteps.{all_dropped, block_there, more_dropped, none_dropped}
use Rattle.hl_store.proofs.store.Store.drop_from.Goals as goal

pub blocks-2-init : goal.blocks-2-init
blocks-2-init g c = (omega arith, none_dropped c.args.self.now c.args.ino c.args.from)

pub drop_block-requires-clause-number : goal.drop_block-requires-clause-number
drop_block-requires-clause-number g c = record {
  low = c.requires.number.low;
  high = subst (λ (x : StoreValue g.row.M.Denot). c.args.ino < (layout x).inodes) (sym c.blocks-2.invariant.1.beside) c.requires.number.high;
}

pub drop_block-requires-clause-block : goal.drop_block-requires-clause-block
drop_block-requires-clause-block g c =
    let at = subst (λ (x : StoreValue g.row.M.Denot). draft_of x.overlay.drafts c.args.ino ≡ Some c.in-Some.draft.now) c.self.view_is (sym c.in-Some.ensures.value) in
    block_there c.args.self.now c.blocks-2.self c.args.ino c.blocks-2.i c.requires.number.high c.blocks-2.invariant.1.shapes c.in-Some.draft.now at (subst (λ n. c.blocks-2.i < n) c.blocks-end.ensures.value c.blocks-2-test.true)

pub blocks-2-preserved : goal.blocks-2-preserved
blocks-2-preserved g c = (
  let low = c.blocks-2.invariant.0 in omega arith,
  more_dropped c.args.self.now c.blocks-2.self c.drop_block.new.self c.args.ino c.args.from c.blocks-2.i c.blocks-2.invariant.0 c.blocks-2.invariant.1 c.drop_block.ensures,
)

pub returns : goal.returns
returns g c =
    let at = subst (λ (x : StoreValue g.row.M.Denot). draft_of x.overlay.drafts c.args.ino ≡ Some c.in-Some.draft.now) c.self.view_is (sym c.in-Some.ensures.value) in
    let end : blocks_of_shape c.in-Some.draft.now.shape ≤ c.blocks-2.i = subst (λ n. n ≤ c.blocks-2.i) c.blocks-end.ensures.value c.blocks-2-test.false in
    all_dropped c.args.self.now c.blocks-2.self c.args.ino c.args.from c.blocks-2.i c.requires.number.high c.in-Some.draft.now at end (subst (λ (x : StoreValue g.row.M.Denot). IsWholeOverlay x.overlay) c.self-2.view_is c.tell_whole.ensures) c.blocks-2.invariant.1
