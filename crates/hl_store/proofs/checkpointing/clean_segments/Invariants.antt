use Rattle.std.proofs.Common.{◌≡◌, ◌≤◌, filter, length}
use Rattle.std.specs.List.{range_with_len}
use Rattle.std.specs.Vec.{vec_capacity}
use Rattle.hl_store.specs.Checkpointing.{is_clean}
use Rattle.hl_store.proofs.checkpointing.clean_segments.Given as goal

-- the clean ones of the segments that were passed, and room for the others
abbrev pub invariant-segments : goal.invariant-segments
invariant-segments l = record {
  so_far : l.clean.items ≡ filter (is_clean l.head l.live) (range_with_len 1 l.passed);
  few : length l.clean.items ≤ l.passed;
  room : vec_capacity l.fn.room ≤ vec_capacity l.clean;
}
