use Rattle.hl_model.proofs.Runs.{run_in_plain, run_keeps_site, run_stays_stopped, stands_now}
use Rattle.hl_model.proofs.runs_are_plain.Goals as goal

pub returns : goal.returns
returns c = record {
  plain = λ g shelf before steps last after site run. (run_in_plain g shelf before steps last after (stands_now g shelf before.site site) run).0;
  replies = λ g shelf before steps last after site run. (run_in_plain g shelf before steps last after (stands_now g shelf before.site site) run).1;
  site = λ g shelf before steps last after site run runs. run_keeps_site g shelf before steps last after site run runs;
  stopped = λ g shelf before steps last after faults stopped run. run_stays_stopped g shelf before steps last after faults stopped run;
}
