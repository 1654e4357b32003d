use Rattle.std.proofs.Common.{◌≡◌}
use Rattle.hl_lines.specs.Indexes.{least_used}
use Rattle.hl_lines.proofs.table.least_used.Given as goal

abbrev pub invariant-loop-tseg : goal.invariant-loop-tseg
invariant-loop-tseg l = least_used l.keep l.clean.entries ≡ least_used l.keep l.tseg-iterator.iter
