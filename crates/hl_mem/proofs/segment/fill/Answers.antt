use Rattle.std.proofs.Common.{◌∙◌, ap}
use Rattle.std.proofs.Common.{length}
use Rattle.hl_bytes.proofs.WholeParts.{whole_written}
use Rattle.hl_mem.proofs.segment.fill.Goals as goal

pub returns : goal.returns
returns c = whole_written c.args.buffer.now c.copy_from_slice.new.self (ap length c.copy_from_slice.ensures.after ∙ c.requires) ∙ c.copy_from_slice.ensures.after
