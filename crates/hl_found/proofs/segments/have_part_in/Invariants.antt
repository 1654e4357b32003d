use Rattle.std.proofs.Common.{ℕ, ◌<◌}
use Rattle.std.specs.List.{slice_index_or}
use Rattle.hl_image.specs.declared.chain.ChainPart.{ChainPart}
use Rattle.hl_found.specs.Segments.{LiesIn}
use Rattle.hl_found.proofs.segments.have_part_in.Given as goal

abbrev pub invariant-parts : goal.invariant-parts
invariant-parts l = (i : ℕ) (d : ChainPart) → i < l.i → LiesIn l.geometry l.segment (slice_index_or l.chain i d) → ⊥
