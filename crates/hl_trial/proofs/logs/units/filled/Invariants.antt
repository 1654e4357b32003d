use Rattle.std.proofs.Common.{◌≡◌, length}
use Rattle.hl_trial.specs.Units.{AreBlocksOf}
use Rattle.hl_trial.proofs.logs.units.filled.Given as goal

abbrev pub invariant-loop-index : goal.invariant-loop-index
invariant-loop-index l = AreBlocksOf l.site l.all.items × (length l.all.items ≡ l.index)
