use Rattle.hl_log.proofs.Resting.{read_stays}
use Rattle.hl_log.proofs.log.Log.read.Goals as goal

pub returns-clause-rest : goal.returns-clause-rest
returns-clause-rest g c = rw (← c.self.view_is) (read_stays c.self.inside.geometry c.self.inside.at _ _ _ c.read.ensures.did)
