use Rattle.hl_log.proofs.Resting.{sync_stays}
use Rattle.hl_log.proofs.log.Log.sync.Goals as goal

pub returns-clause-rest : goal.returns-clause-rest
returns-clause-rest g c = rw (← c.self.view_is) (sync_stays c.self.inside.geometry c.self.inside.at _ _ _ c.sync.ensures.did)
