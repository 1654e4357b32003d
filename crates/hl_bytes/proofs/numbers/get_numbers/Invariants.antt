use Rattle.std.proofs.Common.{◌≡◌, take}
use Rattle.hl_bytes.specs.Runs.{u32s_at}
use Rattle.hl_bytes.proofs.numbers.get_numbers.Given as goal

abbrev pub invariant-get : goal.invariant-get
invariant-get l = take l.i l.out ≡ u32s_at l.at l.i l.bytes
