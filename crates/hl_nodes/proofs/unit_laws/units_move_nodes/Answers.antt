use Rattle.hl_nodes.proofs.MomentLaws.{unit_moves, unit_moved}
use Rattle.hl_nodes.proofs.unit_laws.units_move_nodes.Goals as goal

pub returns-clause-crash : goal.returns-clause-crash
returns-clause-crash r g p clean u before now run = unit_moves g p clean before now u run

pub returns-clause-ends : goal.returns-clause-ends
returns-clause-ends r g p clean u q left before now closes at ends = unit_moved g p clean before now u q left closes at ends
