use Rattle.std.proofs.Common.{ℕ, ◌<◌}
use Rattle.hl_nodes.specs.Sound.{IsAhead}
use Rattle.hl_found.specs.Segments.{part_block}
use Rattle.hl_found.proofs.segments.is_behind.Given as goal

abbrev pub invariant-each : goal.invariant-each
invariant-each l = (i : ℕ) → i < l.i → IsAhead l.geometry l.head (part_block l.geometry l.part i) → ⊥
