use Rattle.hl_trial.proofs.CleanLemmas.{clean_push, clean_skip}
use Rattle.hl_trial.proofs.stores.mounts.push_clean.Goals as goal

pub returns-in_ok-push : goal.returns-in_ok-push
returns-in_ok-push c = rw c.in_ok-push.ensures.items (clean_push c.args.head c.args.seg c.args.clean.now.items c.requires.low c.if-seg-head.true c.requires.clean)

pub returns-else-not-is_used : goal.returns-else-not-is_used
returns-else-not-is_used c = clean_skip c.args.head c.args.seg c.args.clean.now.items c.requires.clean
