use Rattle.hl_store.proofs.CheckpointStarts.{keeps_starts}
use Rattle.hl_store.proofs.store.Store.checkpoint_in_reserve.Goals as goal

pub returns-in-Err-clause-crash : goal.returns-in-Err-clause-crash
returns-in-Err-clause-crash g c = keeps_starts {M = g.row.M.Denot} c.args.self.now (g.M.Machine.history c.args.self.now.log.machine)
