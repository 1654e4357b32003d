use Rattle.std.proofs.Common.{ℕ, ◌<◌}
use Rattle.std.specs.List.{slice_index_or}
use Rattle.hl_found.specs.declared.live.LiveAt.{LiveAt}
use Rattle.hl_found.specs.Found.{parts_found}
use Rattle.hl_found.specs.Segments.{IsInPlace}
use Rattle.hl_found.proofs.segments.lives_are_in_place.Given as goal

abbrev pub invariant-each : goal.invariant-each
invariant-each l = (i : ℕ) (d : LiveAt) → i < l.i → IsInPlace l.geometry l.found.rec (parts_found l.found.chain.items) l.found.tables (slice_index_or l.lives i d)
