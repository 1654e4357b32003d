use Rattle.std.proofs.Common.{◌≡◌, take}
use Rattle.std.specs.Prelude.{count_by}
use Rattle.hl_tseg.specs.Slots.{is_staged}
use Rattle.hl_staged.proofs.slots.first_staged.Given as goal

abbrev pub invariant-slots : goal.invariant-slots
invariant-slots l = count_by is_staged (take l.i l.slots) ≡ 0
