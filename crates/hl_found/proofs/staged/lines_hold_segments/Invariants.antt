use Rattle.std.proofs.Common.{ℕ, ◌<◌}
use Rattle.std.specs.List.{slice_index_or}
use Rattle.hl_bytes.specs.Buffers.{block_of}
use Rattle.hl_tseg.specs.declared.slot.Slot.TheVariants.{Free}
use Rattle.hl_found.specs.Staged.{HoldsStaged}
use Rattle.hl_found.proofs.staged.lines_hold_segments.Given as goal

abbrev pub invariant-each : goal.invariant-each
invariant-each l = (n : ℕ) → n < l.n → HoldsStaged l.geometry (block_of l.image) (slice_index_or l.slots.slots n Free)
