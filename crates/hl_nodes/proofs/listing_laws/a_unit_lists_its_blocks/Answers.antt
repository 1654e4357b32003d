use Rattle.hl_nodes.proofs.ListingLaws.{unit_lists}
use Rattle.hl_nodes.proofs.listing_laws.a_unit_lists_its_blocks.Goals as goal

pub returns : goal.returns
returns r g p clean u q left parts first s limits at_rest at closed numbered written l = unit_lists g p clean u q left parts first s limits at_rest at closed numbered written l
