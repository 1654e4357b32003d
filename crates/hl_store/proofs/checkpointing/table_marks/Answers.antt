use Rattle.std.proofs.Common.{◌<◌, subst, ℕ}
use Rattle.hl_store.proofs.MarkLemmas.{mark_more}
use Rattle.hl_store.proofs.checkpointing.table_marks.Goals as goal

pub segments-preserved : goal.segments-preserved
segments-preserved c = mark_more c.args.tables.now.used c.segments.marks.items c.push.new.self.items c.segments.passed c.used.result c.segments.invariant
    (subst (λ (n : ℕ). c.segments.passed < n) c.requires c.segments-test.true) c.used.ensures c.in_ok-push.ensures.items
