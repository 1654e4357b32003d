use Rattle.std.proofs.Common.{◌≢◌, ◌<◌, ◌≤◌, ℕ, slice_get, Some}
use Rattle.hl_tseg.specs.declared.slot.Slot.TheVariants.{Free}
use Rattle.hl_tseg.proofs.table.first_free.Given as goal

abbrev pub invariant-slots : goal.invariant-slots
invariant-slots l = (other : ℕ) → l.from ≤ other → other < l.number → slice_get l.slots other ≢ Some Free
