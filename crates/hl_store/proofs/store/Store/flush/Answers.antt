use Rattle.hl_store.proofs.QuietLemmas.{quiet}
use Rattle.hl_store.proofs.store.Store.flush.Goals as goal

pub returns-then-is_tidy-clause-crash : goal.returns-then-is_tidy-clause-crash
returns-then-is_tidy-clause-crash g c = quiet c.args.self.now (g.M.Machine.history c.args.self.now.log.machine)

pub returns-then-clean-lt-CLEAN_MIN-clause-crash : goal.returns-then-clean-lt-CLEAN_MIN-clause-crash
returns-then-clean-lt-CLEAN_MIN-clause-crash g c = quiet c.args.self.now (g.M.Machine.history c.args.self.now.log.machine)
