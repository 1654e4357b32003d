use Rattle.hl_store.proofs.MarkLemmas.{marks_more}
use Rattle.hl_store.proofs.checkpointing.set_marks.Goals as goal

pub segments-preserved : goal.segments-preserved
segments-preserved c = marks_more c.args.tables.now c.segments.tables c.set_used.new.self c.args.marks.now c.segments.passed c.requires.all c.segments-test.true c.segments.invariant c.set_used.ensures
