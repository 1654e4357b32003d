use Rattle.hl_model.proofs.StagingLines.{staging_stays}
use Rattle.hl_model.proofs.staging_stays.Goals as goal

pub returns : goal.returns
returns c = λ g s clean i t staging log shelf event other answer new e. staging_stays g s clean i t staging log shelf event other answer new e
