use Rattle.hl_log.proofs.Resting.{say_stays}
use Rattle.hl_log.proofs.log.Log.say.Goals as goal

pub returns-clause-rest : goal.returns-clause-rest
returns-clause-rest g c = rw (← c.self.view_is) (say_stays c.self.inside.geometry c.self.inside.at _ _ _ c.args.bytes.now c.say.ensures.did)
