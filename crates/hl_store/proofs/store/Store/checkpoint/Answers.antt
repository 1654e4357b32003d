use Rattle.hl_store.proofs.CheckpointStarts.{keeps_starts}
use Rattle.hl_store.proofs.store.Store.checkpoint.Goals as goal

pub returns-then-clean-lt-CLEAN_MIN-clause-crash : goal.returns-then-clean-lt-CLEAN_MIN-clause-crash
returns-then-clean-lt-CLEAN_MIN-clause-crash g c = keeps_starts {M = g.row.M.Denot} c.args.self.now (g.M.Machine.history c.args.self.now.log.machine)
