use Rattle.std.proofs.Common.{◌≢◌, ℕ, ◌/◌, ◌<◌}
use Rattle.std.specs.Prelude.{slice_index}
use Rattle.hl_found.proofs.segments.have_table_in.Given as goal

abbrev pub invariant-tables : goal.invariant-tables
invariant-tables l = (i : ℕ) → i < l.i → slice_index l.addresses i / l.geometry.k ≢ l.segment
