use Rattle.std.proofs.Common.{◌≡◌, ◌-◌, length}
use Rattle.hl_dump.specs.Dumps.{dump_limits}
use Rattle.hl_dump.specs.Growing.{IsReadTo}
use Rattle.hl_dump.proofs.read.read_dump.Given as goal

abbrev pub invariant-entries : goal.invariant-entries
invariant-entries l = record { limits : l.tree.limits ≡ dump_limits; read : IsReadTo l.bytes l.at l.tree.tree }

abbrev pub decreases-entries : goal.decreases-entries
decreases-entries l = length l.bytes - l.at
