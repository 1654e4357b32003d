use Rattle.hl_nodes.proofs.MomentLaws.{unit_moves_sound, unit_moved_sound}
use Rattle.hl_nodes.proofs.unit_laws.units_keep_contents_sound.Goals as goal

pub returns-clause-crash : goal.returns-clause-crash
returns-clause-crash r g p clean u before now run = unit_moves_sound g p clean before now u run

pub returns-clause-ends : goal.returns-clause-ends
returns-clause-ends r g p clean u q left before now ends = unit_moved_sound g p clean before now u q left ends
