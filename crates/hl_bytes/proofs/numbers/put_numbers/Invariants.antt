use Rattle.std.proofs.Common.{◌≡◌, take, length}
use Rattle.hl_bytes.specs.Fields.{written}
use Rattle.hl_bytes.specs.Runs.{numbers32}
use Rattle.hl_bytes.proofs.numbers.put_numbers.Given as goal

abbrev pub invariant-put : goal.invariant-put
invariant-put l = record { so_far : l.bytes ≡ written l.fn.bytes l.at (numbers32 (take l.i l.numbers)); size : length l.bytes ≡ length l.fn.bytes }
