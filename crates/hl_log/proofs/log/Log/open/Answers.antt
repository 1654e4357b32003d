use Rattle.std.proofs.Common.{ap}
use Rattle.hl_log.specs.declared.position.Position.{Position}
use Rattle.hl_log.proofs.Resting.{opens_now}
use Rattle.hl_log.proofs.log.Log.open.Goals as goal

pub returns-clause-rest : goal.returns-clause-rest
returns-clause-rest g c = opens_now c.in-Ok.own c.opened_at-at.result (ap (λ (p : Position). p.fresh) c.opened_at-at.ensures) (g.M.Machine.history c.args.machine)
