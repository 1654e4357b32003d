use Rattle.std.proofs.Common.{◌≡◌, ◌<◌, ◌+◌, ◌*◌, ℕ}
use Rattle.hl_bytes.specs.Fields.{u32_at}
use Rattle.hl_summary.proofs.reading.has_gaps.Given as goal

abbrev pub invariant-each : goal.invariant-each
invariant-each l = (j : ℕ) → j < l.i → u32_at (1972 + 24 * j) l.part ≡ 0
