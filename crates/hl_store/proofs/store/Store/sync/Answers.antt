use Rattle.hl_store.proofs.LineSteps.{sync_lasts, sync_stays}
use Rattle.hl_store.proofs.store.Store.sync.Goals as goal

pub returns-clause-crash : goal.returns-clause-crash
returns-clause-crash g c = sync_lasts {M = g.row.M.Denot} g.M.Machine.history _ _ c.sync.new.self c.sync.result c.self.view_is c.sync.ensures.same c.sync.ensures.did

pub returns-clause-keeps : goal.returns-clause-keeps
returns-clause-keeps g c = sync_stays {M = g.row.M.Denot} g.M.Machine.history _ _ c.sync.new.self c.sync.result c.self.view_is c.sync.ensures.same c.sync.ensures.did
