use Rattle.std.proofs.Common.{List, sym, ap}
use Rattle.hl_tseg.specs.declared.slot.Slot.{Slot}
use Rattle.hl_tseg.specs.SlotTable.{SlotTable}
use Rattle.hl_tseg.proofs.SlotRuns.{run-none, one_more}
use Rattle.hl_tseg.proofs.table.TsegTable.set_run.Goals as goal

pub run-init : goal.run-init
run-init c =
    let t : SlotTable = c.args.self.now in
    ap (λ (l : List Slot). record { volumes = t.volumes; slots = l; full = t.full }) (sym (run-none t.slots c.args.slots.now c.args.from))

pub run-preserved : goal.run-preserved
run-preserved c = one_more c.args.self.now c.run.self c.put.new.self c.args.slots.now c.args.from c.run.i c.requires c.run-test.true c.run.invariant c.put.ensures
