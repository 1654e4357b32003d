use Rattle.std.proofs.Common.{◌≡◌, ◌+◌, take, sum}
use Rattle.hl_addr.proofs.slots.slot_at.Given as goal

abbrev pub invariant-volumes : goal.invariant-volumes
invariant-volumes l = record { so_far : sum (take l.slots-index l.volumes) + l.rest ≡ l.number; place : l.volume ≡ l.slots-index }
