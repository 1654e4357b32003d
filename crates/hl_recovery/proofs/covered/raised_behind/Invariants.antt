use Rattle.std.proofs.Common.{◌≡◌, take}
use Rattle.std.specs.List.{fold}
use Rattle.hl_nodes.specs.Tables.{raised}
use Rattle.hl_recovery.proofs.covered.raised_behind.Given as goal

abbrev pub invariant-parts : goal.invariant-parts
invariant-parts l = l.raised_to ≡ fold (λ n p. fold raised n p.summary.tables) l.next (take l.part-index l.chain)
