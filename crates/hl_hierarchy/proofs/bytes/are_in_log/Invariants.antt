use Rattle.std.specs.Prelude.{ℕ, ◌<◌, slice_index}
use Rattle.hl_image.specs.Places.{InLog, log_end}
use Rattle.hl_hierarchy.proofs.bytes.are_in_log.Given as goal

abbrev pub invariant-pointers : goal.invariant-pointers
invariant-pointers l = record {
  in_log : (k : ℕ) → k < l.i → InLog l.geometry (slice_index l.pointers k);
  within : (k : ℕ) → k < l.i → slice_index l.pointers k < log_end l.geometry;
}
