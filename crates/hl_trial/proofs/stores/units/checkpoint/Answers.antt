use Rattle.hl_trial.proofs.UnitLemmas.{tidy_behind}
use Rattle.hl_trial.proofs.stores.units.checkpoint.Goals as goal

pub checkpoint-requires : goal.checkpoint-requires
checkpoint-requires g c = tidy_behind g.M.Machine.history g.M.Machine.faults g.M.Machine.write_faults c.args.store.now c.flush.new.self _ c.flush.result c.in-Written.is c.flush.ensures.ends
