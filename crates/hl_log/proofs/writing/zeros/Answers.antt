use Rattle.std.proofs.Common.{refl}
use Rattle.hl_bytes.specs.Fields.{zeros}
use Rattle.hl_log.proofs.writing.zeros.Goals as goal

pub returns : goal.returns
unfolding zeros
returns c = refl
