use Rattle.hl_bytes.specs.Fields.{zeros}
use Rattle.hl_bytes.proofs.buffer.SegBuf.new.Goals as goal

pub returns-clause-value : goal.returns-clause-value
unfolding zeros
returns-clause-value c = c.in_ok-bytes.ensures.items_if_clones_equal (λ y h. h)
