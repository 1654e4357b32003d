use Rattle.std.proofs.Common.{◌≡◌, ◌<◌, ℕ, sum, take}
use Rattle.hl_tseg.specs.SlotTable.{IsOpen}
use Rattle.hl_tseg.proofs.table.TsegTable.next_free.Given as goal

abbrev pub invariant-volumes : goal.invariant-volumes
invariant-volumes l = record {
  so_far : l.first ≡ sum (take l.volume l.self.volumes);
  passed : (number : ℕ) → number < l.first → ¬ IsOpen l.self number;
}
