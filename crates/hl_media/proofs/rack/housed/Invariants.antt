use Rattle.std.proofs.Common.{◌≡◌, length, map}
use Rattle.std.specs.Vec.{vec_capacity}
use Rattle.hl_media.specs.declared.bay.Bay.TheVariants.{Holds}
use Rattle.hl_media.proofs.rack.housed.Given as goal

abbrev pub invariant-house : goal.invariant-house
invariant-house g l =
    (goal.iterator-house g).can_next l.volume-iterator ×
    (goal.iterator-house g).is_finite l.volume-iterator ×
    (l.bays.items ≡ map Holds l.yielded) ×
    (vec_capacity l.bays ≡ length l.fn.volumes.items)
