use Rattle.hl_tally.proofs.UnitLaws.{unit_tally}
use Rattle.hl_tally.proofs.WrittenLaws.{written_tally}
use Rattle.hl_tally.proofs.unit_laws.units_are_counted.Goals as goal

pub returns-clause-taken : goal.returns-clause-taken
returns-clause-taken r g p clean o notes c blocks pieces rest s n is tally image behind none takes sound = unit_tally g p clean o notes c blocks pieces rest s is image takes sound behind none n tally

pub returns-clause-written : goal.returns-clause-written
returns-clause-written r g p clean o notes c blocks pieces rest first n is tally q left s behind none numbered written sound =
    written_tally g p clean o notes c blocks pieces rest first is q left s numbered written sound behind none n tally
