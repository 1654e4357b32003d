use Rattle.std.proofs.Common.{◌≡◌, ◌*◌, replicate}
use Rattle.hl_bytes.specs.Fields.{zeros}
use Rattle.hl_mem.proofs.volume.blank_slots.Given as goal

abbrev pub invariant-blank : goal.invariant-blank
invariant-blank l = l.made.items ≡ replicate l.counter (zeros (4096 * l.blocks))
