use Rattle.std.proofs.Common.{refl}
use Rattle.hl_store.proofs.SeatLemmas.{released}
use Rattle.hl_store.proofs.store.Store.release.Goals as goal

pub returns : goal.returns
returns g c = released {M = g.row.M.Denot} _ _ _ c.trim.new.self c.release.new.self c.self.view_is refl c.self.invariant.shape c.trim.ensures.was c.trim.ensures.whole c.trim.ensures.drafts c.trim.ensures.blocks c.release.ensures
