use Rattle.std.proofs.Common.{◌≤◌, ◌-◌, length}
use Rattle.hl_store.specs.Numbers.{AreAllUsed}
use Rattle.hl_store.proofs.in_use.next_free.Given as goal

-- the numbers that were passed are in use
abbrev pub invariant-next : goal.invariant-next
invariant-next l = record {
  low : l.from ≤ l.next;
  within : l.next ≤ length l.flags.items;
  used : AreAllUsed l.flags.items l.from l.next;
}

abbrev pub decreases-next : goal.decreases-next
decreases-next l = length l.flags.items - l.next
