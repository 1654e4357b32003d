use Rattle.hl_nodes.proofs.ListingLaws.{unit_moves_listed, unit_moved_listed}
use Rattle.hl_nodes.proofs.listing_laws.units_keep_blocks_listed.Goals as goal

pub returns-clause-crash : goal.returns-clause-crash
returns-clause-crash r g p clean u before now run = unit_moves_listed g p clean before now u run

pub returns-clause-ends : goal.returns-clause-ends
returns-clause-ends r g p clean u q left before now closes at ends = unit_moved_listed g p clean before now u q left closes at ends
