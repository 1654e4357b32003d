use Rattle.hl_overlaid.proofs.BehindLemmas.{behind_over}
use Rattle.hl_overlaid.proofs.SerialLemmas.{serial_now}
use Rattle.hl_overlaid.proofs.UnitMakes.{slots_now}
use Rattle.hl_overlaid.proofs.unit_laws.nothing_is_drafted_behind_a_unit.Goals as goal

pub returns-clause-over : goal.returns-clause-over
returns-clause-over r g p clean o notes c blocks pieces rest s is image behind none slots = behind_over g p clean o notes c blocks pieces rest s is image behind none slots

pub returns-clause-slots : goal.returns-clause-slots
returns-clause-slots r g p clean o notes c blocks pieces rest s is = slots_now g p clean o notes c blocks pieces rest s is

pub returns-clause-serial : goal.returns-clause-serial
returns-clause-serial r g p clean o notes c blocks pieces rest s is nodes = serial_now g p clean o notes c blocks pieces rest s is nodes
