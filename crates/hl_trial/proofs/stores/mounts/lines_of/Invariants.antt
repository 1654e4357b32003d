use Rattle.std.proofs.Common.{◌≡◌, length}
use Rattle.hl_trial.proofs.stores.mounts.lines_of.Given as goal

abbrev pub invariant-slots : goal.invariant-slots
invariant-slots l = length l.lines.states ≡ l.site.lines
