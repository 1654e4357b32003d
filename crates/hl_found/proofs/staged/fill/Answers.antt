use Rattle.std.proofs.Common.{◌∙◌, ap, length}
use Rattle.hl_found.proofs.StagedFound.{whole_written}
use Rattle.hl_found.proofs.staged.fill.Goals as goal

pub returns : goal.returns
returns c = whole_written c.args.buffer.now c.copy_from_slice.new.self (ap length c.copy_from_slice.ensures.after ∙ c.requires) ∙ c.copy_from_slice.ensures.after
