use Rattle.std.proofs.Common.{◌≡◌, take}
use Rattle.hl_store.proofs.checkpointing.table_marks.Given as goal

-- the segments that were passed
abbrev pub invariant-segments : goal.invariant-segments
invariant-segments l = l.marks.items ≡ take l.passed l.tables.used
