use Rattle.std.proofs.Common.{ℕ, ◌<◌}
use Rattle.std.specs.List.{slice_index_or}
use Rattle.hl_tseg.specs.declared.slot.Slot.{Slot}
use Rattle.hl_found.specs.Slots.{AreTwo, IsPossible}
use Rattle.hl_found.proofs.slots.slots_are_possible.Given as goal

abbrev pub invariant-ones : goal.invariant-ones
invariant-ones l = record {
  each : (i : ℕ) (d : Slot) → i < l.i → IsPossible l.geometry.lines l.next (slice_index_or l.slots.slots i d);
  apart : (i j : ℕ) (d : Slot) → i < l.i → j < i → AreTwo (slice_index_or l.slots.slots i d) (slice_index_or l.slots.slots j d);
}

abbrev pub invariant-others : goal.invariant-others
invariant-others l = (j : ℕ) (d : Slot) → j < l.j → AreTwo (slice_index_or l.slots.slots l.i d) (slice_index_or l.slots.slots j d)
