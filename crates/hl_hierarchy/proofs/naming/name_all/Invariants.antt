use Rattle.std.proofs.Common.{◌≡◌}
use Rattle.hl_media.specs.Moments.{Now}
use Rattle.hl_log.specs.Logs.{OnlyReads}
use Rattle.hl_tables.specs.Values.{TableValues}
use Rattle.hl_survey.specs.Surveys.{AreSurveyed}
use Rattle.hl_hierarchy.specs.Naming.{EachBelow}
use Rattle.hl_hierarchy.specs.Hierarchies.{AreNamedBelow}
use Rattle.hl_hierarchy.proofs.naming.name_all.Given as goal

abbrev pub invariant-numbers : goal.invariant-numbers
invariant-numbers g l = record {
  machine : OnlyReads {M = g.row.M.Denot} g.M.Machine.history g.M.Machine.blocks g.M.Machine.faults g.M.Machine.write_faults g.M.Machine.say_faults l.fn.machine l.machine;
  faults : g.M.Machine.faults l.machine ≡ g.M.Machine.faults l.fn.machine;
  below : EachBelow l.parents l.ino;
  named : Now (g.M.Machine.history l.fn.machine) (λ s. (t : TableValues) → AreSurveyed l.geometry s.content t l.found → AreNamedBelow l.geometry s.content l.found l.parents l.ino);
}
