use Rattle.std.specs.Prelude.{◌≡◌, ℕ, ◌<◌, length, None}
use Rattle.std.specs.List.{slice_index_or}
use Rattle.hl_media.specs.Moments.{Now}
use Rattle.hl_log.specs.Logs.{OnlyReads}
use Rattle.hl_survey.specs.Surveys.{IsFound}
use Rattle.hl_survey.proofs.scan.survey.Given as goal

abbrev pub invariant-numbers : goal.invariant-numbers
invariant-numbers g l = record {
  machine : OnlyReads {M = g.row.M.Denot} g.M.Machine.history g.M.Machine.blocks g.M.Machine.faults g.M.Machine.write_faults g.M.Machine.say_faults l.fn.machine l.machine;
  faults : g.M.Machine.faults l.machine ≡ g.M.Machine.faults l.fn.machine;
  count : length l.found.items ≡ l.ino;
  each : Now (g.M.Machine.history l.fn.machine) (λ s. (k : ℕ) → k < l.ino → IsFound l.geometry s.content l.tables k (slice_index_or l.found.items k None));
}
