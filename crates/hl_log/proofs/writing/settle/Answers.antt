use Rattle.hl_media.proofs.Runs.{starts}
use Rattle.hl_log.specs.Steps.{KeepsChain}
use Rattle.hl_log.proofs.Steps.{rest_leaves}
use Rattle.hl_log.proofs.Silence.{silent_starts}
use Rattle.hl_log.proofs.writing.settle.Goals as goal

pub returns-else-log-clause-crash : goal.returns-else-log-clause-crash
returns-else-log-clause-crash g c = starts _ (KeepsChain c.args.geometry.now c.args.log) (λ h e clean parts rest. rest_leaves c.args.geometry.now c.args.log clean parts _ rest)

pub returns-else-log-clause-silent : goal.returns-else-log-clause-silent
returns-else-log-clause-silent g c = silent_starts _
