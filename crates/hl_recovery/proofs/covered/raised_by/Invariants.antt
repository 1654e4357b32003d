use Rattle.std.proofs.Common.{◌≡◌, take}
use Rattle.std.specs.List.{fold}
use Rattle.hl_nodes.specs.Tables.{raised}
use Rattle.hl_recovery.proofs.covered.raised_by.Given as goal

abbrev pub invariant-changes : goal.invariant-changes
invariant-changes l = l.raised_to ≡ fold raised l.next (take l.change-index l.changes)
