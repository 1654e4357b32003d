use Rattle.std.proofs.Common.{◌+◌, ◌≤◌, length}
use Rattle.hl_trial.specs.Made.{IsMade}
use Rattle.hl_trial.proofs.stores.nodes.put_blocks.Given as goal

abbrev pub invariant-blocks-2 : goal.invariant-blocks-2
invariant-blocks-2 g l = IsMade l.store l.ino l.fn.kind (length l.blocks) × (length l.blocks ≤ l.i + l.store.overlay.room)
