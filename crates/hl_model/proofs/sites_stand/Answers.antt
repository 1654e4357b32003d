use Rattle.hl_model.proofs.Standing.{closed_stands_again, mount_stands, run_stands, step_stands}
use Rattle.hl_model.proofs.sites_stand.Goals as goal

pub returns : goal.returns
returns c = record {
  mounted = λ g shelf tree tables counts s are long is site away. mount_stands g shelf tree tables counts s are long is site away;
  kept = λ g shelf before entry after standing takes runs. step_stands g shelf before entry after standing takes runs;
  run = λ g shelf before steps last after standing run runs. run_stands g shelf before steps last after standing run runs;
  again = λ g shelf before after counts again standing closed long is. closed_stands_again g shelf before after counts again standing closed long is;
}
