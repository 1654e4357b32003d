use Rattle.std.proofs.Common.{◌∙◌}
use Rattle.hl_bytes.proofs.WholeParts.{whole_part}
use Rattle.hl_mem.proofs.segment.bytes_of.Goals as goal

pub returns : goal.returns
returns c = c.part.ensures.value ∙ whole_part c.args.buffer.now c.blocks-2.result c.blocks-2.ensures
