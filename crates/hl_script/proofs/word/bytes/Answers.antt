use Rattle.std.proofs.Common.{arith}
use Rattle.std.proofs.lemmas.Grind.{common_steps}
use Rattle.hl_script.specs.Words.{bytes_at}
use Rattle.hl_script.proofs.word.bytes.Goals as goal

pub returns-in-Ok : goal.returns-in-Ok
unfolding bytes_at
returns-in-Ok c = grind (arith, common_steps, c.in-Ok.ensures.ok)
