use Rattle.std.proofs.Common.{◌≡◌, ◌++◌, take, drop}
use Rattle.hl_store.proofs.checkpointing.set_marks.Given as goal

-- the segments that were passed are marked so
abbrev pub invariant-segments : goal.invariant-segments
invariant-segments l = l.tables ≡ record l.fn.tables { used = take l.passed l.marks ++ drop l.passed l.fn.tables.used }
