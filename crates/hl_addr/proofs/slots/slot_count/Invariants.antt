use Rattle.std.proofs.Common.{◌≡◌, ◌*◌, ◌≤◌, take, sum}
use Rattle.hl_addr.proofs.slots.slot_count.Given as goal

abbrev pub invariant-volumes : goal.invariant-volumes
invariant-volumes l = record { so_far : l.count ≡ sum (take l.slots-index l.volumes); small : l.count ≤ 4096 * l.slots-index }
