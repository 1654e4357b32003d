use Rattle.std.proofs.Common.{length, true, false, refl, ◌∙◌}
use Rattle.hl_walk.proofs.KeptTrees.{reads_nothing}
use Rattle.hl_links.proofs.LinkedTrees.{tree_so}
use Rattle.hl_rename.specs.Moves.{PutsBothSized, PutsTwo, both_growth, put_growth}
use Rattle.hl_rename.proofs.MoveCharges.{tells_two, told_over}
use Rattle.hl_rename.proofs.PutStores.{tree_behind}
use Rattle.hl_rename.proofs.moving.put_two.Goals as goal

pub returns-then-is_over-clause-moves : goal.returns-then-is_over-clause-moves
returns-then-is_over-clause-moves g c =
    (reads_nothing {M = g.row.M.Denot} g.M.Machine.history c.args.store.now, tells_two {M = g.row.M.Denot} c.args.store.now true c.args.before c.args.left.now c.args.to_before c.args.other.now c.args.target (told_over {M = g.row.M.Denot} c.args.store.now true c.is_over.result c.both_growth-growth.result (both_growth (put_growth c.args.before (length c.args.left.now.bytes.items)) (put_growth c.args.to_before (length c.args.other.now.bytes.items))) (c.both_growth-growth.ensures ∙ (λ i. both_growth (put_growth c.args.before (length (c.as_slice-size.ensures.value i))) (put_growth c.args.to_before (length (c.as_slice-to_size.ensures.value i))))) c.is_over.ensures c.if-is_over.true))

pub returns-clause-moves : goal.returns-clause-moves
returns-clause-moves g c = (
  refl,
  tells_two {M = g.row.M.Denot} c.args.store.now false c.args.before c.args.left.now c.args.to_before c.args.other.now c.args.target (told_over {M = g.row.M.Denot} c.args.store.now false c.is_over.result c.both_growth-growth.result (both_growth (put_growth c.args.before (length c.args.left.now.bytes.items)) (put_growth c.args.to_before (length c.args.other.now.bytes.items))) (c.both_growth-growth.ensures ∙ (λ i. both_growth (put_growth c.args.before (length (c.as_slice-size.ensures.value i))) (put_growth c.args.to_before (length (c.as_slice-to_size.ensures.value i))))) c.is_over.ensures c.if-is_over.false),
  tree_so {M = g.row.M.Denot} g.M.Machine.history c.args.store.now c.put_both.new.store (PutsTwo c.args.left.now c.args.other.now c.args.target) (PutsBothSized c.args.before c.args.left.now c.args.to_before c.args.other.now c.args.target) (λ before after sized. sized.puts)
      (tree_behind {M = g.row.M.Denot} g.M.Machine.history c.args.store.now c.prepare_two.new.store c.prepare_two.ensures.reads c.prepare_two.ensures.machine.unchanged c.put_both.new.store (PutsTwo c.args.left.now c.args.other.now c.args.target) c.put_both.ensures.tree),
)
