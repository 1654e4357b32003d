use Rattle.std.proofs.Common.{◌≡◌, ℕ, ◌<◌, length, slice_index}
use Rattle.hl_overlay.specs.Pointing.{where_is}
use Rattle.hl_overlay.specs.Making.{resolved}
use Rattle.hl_overlay.proofs.making.inode_of.Given as goal

abbrev pub invariant-direct : goal.invariant-direct
invariant-direct l = record {
  count : length l.direct ≡ 12;
  names : (k : ℕ) → k < l.i → slice_index l.direct k ≡ resolved l.plan (where_is l.draft.pointers k);
}
