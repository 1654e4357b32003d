use Rattle.std.proofs.Common.{◌≡◌, ℕ, ◌<◌, slice_index}
use Rattle.hl_image.specs.Places.{InLog}
use Rattle.hl_recovery.proofs.tables.misplaced.Given as goal

abbrev pub invariant-addresses : goal.invariant-addresses
invariant-addresses l = record {
  in_log : (k : ℕ) → k < l.i → InLog l.geometry (slice_index l.addresses k);
  once : (k j : ℕ) → k < l.i → j < k → slice_index l.addresses j ≡ slice_index l.addresses k → ⊥;
}
