use Rattle.std.proofs.Common.{◌≡◌, take}
use Rattle.hl_tseg.specs.SlotTable.{with_run}
use Rattle.hl_tseg.proofs.table.TsegTable.set_run.Given as goal

abbrev pub invariant-run : goal.invariant-run
invariant-run l = l.self ≡ record l.fn.self { slots = with_run l.fn.self.slots l.from (take l.i l.slots) }
