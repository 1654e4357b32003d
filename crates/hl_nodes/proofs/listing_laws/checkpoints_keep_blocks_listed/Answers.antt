use Rattle.hl_nodes.proofs.ListingLaws.{checkpoint_keeps_listed, checkpoint_kept_listed}
use Rattle.hl_nodes.proofs.listing_laws.checkpoints_keep_blocks_listed.Goals as goal

pub returns-clause-crash : goal.returns-clause-crash
returns-clause-crash r g p clean d t before now run = checkpoint_keeps_listed g p clean before now d t run

pub returns-clause-ends : goal.returns-clause-ends
returns-clause-ends r g p clean d t q left new before now ends = checkpoint_kept_listed g p clean before now d t q left new ends
