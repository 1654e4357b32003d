use Rattle.hl_trial.proofs.PartLemmas.{of_log}
use Rattle.hl_trial.proofs.stores.mounts.parts_of.Goals as goal

pub returns : goal.returns
returns c = of_log c.args.site.now c.args.head _ c.requires c.in_ok-uses_of.ensures c.in_ok-live_of.ensures c.in_ok-lines_of.ensures c.in_ok-clean.ensures.clean c.clean_of.ensures.limits
