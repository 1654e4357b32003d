use Rattle.std.proofs.Common.{◌≡◌, length, take, drop}
use Rattle.hl_log.specs.Loads.{contents_of}
use Rattle.hl_log.specs.Steps.{own_blocks}
use Rattle.hl_log.proofs.part.put_blocks.Given as goal

abbrev pub invariant-put : goal.invariant-put
invariant-put l = record { so_far : own_blocks l.out l.i ≡ take l.i (drop l.first (contents_of l.load)); size : length l.out ≡ length l.fn.out }
