use Rattle.hl_store.proofs.MemoryLemmas.{read_keeps}
use Rattle.hl_store.proofs.store.Store.load_seg.Goals as goal

pub returns-clause-keeps : goal.returns-clause-keeps
returns-clause-keeps g c = read_keeps {M = g.row.M.Denot} c.args.self.now _ c.self.view_is c.load.new.log c.load.ensures.same
