use Rattle.std.proofs.Common.{◌≡◌, take, drop, length}
use Rattle.hl_log.specs.Loads.{records_of}
use Rattle.hl_log.proofs.part.records_from.Given as goal

abbrev pub invariant-taken : goal.invariant-taken
invariant-taken l = record { so_far : take l.i l.records ≡ take l.i (drop l.first (records_of l.load)); size : length l.records ≡ 240 }
