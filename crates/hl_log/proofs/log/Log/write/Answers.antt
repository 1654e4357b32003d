use Rattle.hl_log.proofs.Resting.{write_stays}
use Rattle.hl_log.proofs.log.Log.write.Goals as goal

pub returns-clause-rest : goal.returns-clause-rest
returns-clause-rest g c =
    let lines = rw (← c.self.view_is) at c.requires.lines in
    rw (← c.self.view_is) (write_stays c.self.inside.geometry c.self.inside.at _ _ _ c.args.at c.args.bytes.now lines c.write.ensures.did)
