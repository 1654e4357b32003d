use Rattle.std.proofs.Common.{◌≡◌, take}
use Rattle.std.specs.List.{fold}
use Rattle.hl_nodes.specs.Tables.{raised}
use Rattle.hl_found.proofs.slots.next_tertiary.Given as goal

abbrev pub invariant-parts : goal.invariant-parts
invariant-parts l = l.next ≡ fold (λ n p. fold raised n p.summary.tables) l.found.rec.tseg_serial (take l.part-index l.found.chain.items)
