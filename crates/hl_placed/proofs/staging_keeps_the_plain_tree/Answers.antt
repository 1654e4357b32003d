use Rattle.hl_placed.proofs.Staging.{plain-staged}
use Rattle.hl_placed.proofs.staging_keeps_the_plain_tree.Goals as goal

pub returns : goal.returns
returns c = λ shelf serial segment placed spots are fresh holds. plain-staged shelf serial segment placed spots are fresh holds
