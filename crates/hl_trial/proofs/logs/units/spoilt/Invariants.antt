use Rattle.std.proofs.Common.{length}
use Rattle.std.specs.Prelude.{All, sum}
use Rattle.hl_summary.specs.Ranges.{IsChangeOf}
use Rattle.hl_trial.proofs.logs.units.spoilt.Given as goal

abbrev pub invariant-loop : goal.invariant-loop
invariant-loop l = All (IsChangeOf l.site.inodes (sum l.site.volumes) (length l.site.volumes)) l.tables.items
