use Rattle.hl_tally.proofs.ReadLaws.{admitted_tally, trimmed_tally}
use Rattle.hl_tally.proofs.laws.reads_keep_the_tally.Goals as goal

pub returns-clause-admits : goal.returns-clause-admits
returns-clause-admits r g image c old new d n admits = admitted_tally g old new image c n d admits

pub returns-clause-trims : goal.returns-clause-trims
returns-clause-trims r g image c old new most n trims = trimmed_tally g old new image c n most trims
