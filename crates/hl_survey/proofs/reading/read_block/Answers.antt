use Rattle.std.proofs.Common.{◌≡◌, ◌∙◌, length}
use Rattle.hl_log.proofs.Readings.{read_tells}
use Rattle.hl_survey.proofs.reading.read_block.Goals as goal

pub returns-clause-bytes : goal.returns-clause-bytes
returns-clause-bytes g c =
    let size : length c.read.new.out ≡ 4096 = c.read.auto.out ∙ c.requires.size in
    read_tells c.read.result (g.M.Machine.history c.args.machine.now) c.args.at c.read.new.out size c.read.ensures.bytes
