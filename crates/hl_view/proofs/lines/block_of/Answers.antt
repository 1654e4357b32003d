use Rattle.hl_bytes.proofs.BufferLemmas.{part_is}
use Rattle.hl_view.proofs.lines.block_of.Goals as goal

pub returns-clause-value : goal.returns-clause-value
returns-clause-value c = part_is c.args.bytes.now c.args.i 1
