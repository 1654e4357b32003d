use Rattle.std.proofs.Common.{ℕ, ◌<◌}
use Rattle.std.specs.List.{slice_index_or}
use Rattle.hl_found.specs.declared.live.LiveAt.{LiveAt}
use Rattle.hl_found.specs.Listing.{AreOne}
use Rattle.hl_found.proofs.live.lie_apart.Given as goal

abbrev pub invariant-ones : goal.invariant-ones
invariant-ones l = (i j : ℕ) (d : LiveAt) → i < l.i → j < i → AreOne (slice_index_or l.lives i d) (slice_index_or l.lives j d)

abbrev pub invariant-others : goal.invariant-others
invariant-others l = record {
  before : (i j : ℕ) (d : LiveAt) → i < l.i → j < i → AreOne (slice_index_or l.lives i d) (slice_index_or l.lives j d);
  here : (j : ℕ) (d : LiveAt) → j < l.j → AreOne (slice_index_or l.lives l.i d) (slice_index_or l.lives j d);
}
