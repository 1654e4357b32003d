use Rattle.std.proofs.Common.{◌≡◌, ◌-◌, ◌^◌, min, take}
use Rattle.std.specs.Prelude.{count_by}
use Rattle.hl_tally.specs.Counting.{is_logged}
use Rattle.hl_census.proofs.charging.count_here.Given as goal

abbrev pub invariant-pointers : goal.invariant-pointers
invariant-pointers l = l.count ≡ min (count_by (is_logged l.k l.segments) (take l.pointer-index l.pointers)) (2 ^ 32 - 1)
