use Rattle.std.proofs.Common.{◌≡◌, take}
use Rattle.hl_bytes.specs.Runs.{run_at}
use Rattle.hl_tables.specs.Entries.{flag_at}
use Rattle.hl_tables.proofs.reading.get_flags.Given as goal

abbrev pub invariant-get : goal.invariant-get
invariant-get l = take l.i l.out ≡ run_at flag_at 4 l.at l.i l.bytes
