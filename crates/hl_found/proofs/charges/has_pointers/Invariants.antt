use Rattle.std.proofs.Common.{◌≡◌, ℕ, ◌<◌, ◌≤◌}
use Rattle.std.specs.List.{slice_index_or}
use Rattle.std.specs.Prelude.{true}
use Rattle.hl_placed.specs.Blocks.{is_hole}
use Rattle.hl_nodes.specs.declared.found.FoundBlock.{FoundBlock}
use Rattle.hl_nodes.specs.Found.{block_found}
use Rattle.hl_found.proofs.charges.has_pointers.Given as goal

abbrev pub invariant-each : goal.invariant-each
invariant-each l = (j : ℕ) (d : FoundBlock) → 12 ≤ j → j < l.i → is_hole (block_found (slice_index_or l.blocks j d)) ≡ true
