use Rattle.std.proofs.Common.{◌≡◌, ℕ, ◌+◌, ◌≤◌, length, slice_index, take}
use Rattle.std.specs.List.{fold}
use Rattle.hl_recovery.specs.Covering.{reach}
use Rattle.hl_recovery.proofs.covered.covered_segments.Given as goal

abbrev pub invariant-parts : goal.invariant-parts
invariant-parts l = record {
  size : length l.covered.items ≡ l.geometry.log + 1;
  so_far : (seg : ℕ) → seg ≤ l.geometry.log → slice_index l.covered.items seg ≡ fold (reach seg) 0 (take l.part-index l.chain);
}
