use Rattle.std.proofs.Common.{ℕ, ◌<◌}
use Rattle.std.specs.List.{slice_index_or}
use Rattle.hl_image.specs.declared.chain.ChainPart.{ChainPart}
use Rattle.hl_found.specs.Segments.{IsPartBehind}
use Rattle.hl_found.proofs.segments.are_behind.Given as goal

abbrev pub invariant-parts : goal.invariant-parts
invariant-parts l = (i : ℕ) (d : ChainPart) → i < l.i → IsPartBehind l.geometry l.head (slice_index_or l.chain i d)
