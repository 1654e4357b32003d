use Rattle.hl_nodes.proofs.ListingLaws.{first_holds}
use Rattle.hl_nodes.proofs.listing_laws.a_first_checkpoint_lists_its_blocks.Goals as goal

pub returns : goal.returns
returns r g p clean parts t nodes first carries d volumes image keeps l new has = first_holds g p clean parts t nodes first carries d volumes image keeps l new has
