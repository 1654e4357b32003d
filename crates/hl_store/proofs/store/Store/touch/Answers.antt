use Rattle.hl_store.proofs.UseChanges.{touched}
use Rattle.hl_store.proofs.store.Store.touch.Goals as goal

pub returns-clause-touches : goal.returns-clause-touches
returns-clause-touches g c =
    rw (← c.self.view_is) (touched _ c.self.invariant.shape c.tell_whole.ensures c.args.ino c.args.now (rw c.self.view_is c.requires.number.high))
