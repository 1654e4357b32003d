use Rattle.hl_ranges.specs.Files.{file_shape}
use Rattle.hl_ranges.specs.Writing.{new_block}
use Rattle.hl_ranges.proofs.PutSteps.{PutSoFar}
use Rattle.hl_ranges.proofs.writing.put_written.Given as goal

abbrev pub invariant-touched : goal.invariant-touched
invariant-touched g l = PutSoFar {M = g.row.M.Denot} l.fn.store l.store l.ino (file_shape l.size) l.now l.first l.i (new_block l.at l.bytes l.front l.back)
