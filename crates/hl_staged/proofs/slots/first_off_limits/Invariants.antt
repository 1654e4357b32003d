use Rattle.std.proofs.Common.{ℕ, ◌<◌}
use Rattle.std.specs.List.{slice_index_or}
use Rattle.hl_tseg.specs.declared.slot.Slot.TheVariants.{Free}
use Rattle.hl_staged.specs.Slots.{IsOffLimits}
use Rattle.hl_staged.proofs.slots.first_off_limits.Given as goal

abbrev pub invariant-slots : goal.invariant-slots
invariant-slots l = (n : ℕ) → n < l.i → IsOffLimits l.lines l.next (slice_index_or l.slots n Free) → ⊥
