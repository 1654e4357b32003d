use Rattle.std.proofs.Common.{◌≢◌, ℕ, ◌/◌, ◌<◌}
use Rattle.hl_found.specs.Segments.{part_block}
use Rattle.hl_found.proofs.segments.lies_in.Given as goal

abbrev pub invariant-each : goal.invariant-each
invariant-each l = (i : ℕ) → i < l.i → part_block l.geometry l.part i / l.geometry.k ≢ l.segment
