use Rattle.hl_nodes.proofs.ListingLaws.{rest_leaves_listed, same_listed}
use Rattle.hl_nodes.proofs.listing_laws.a_log_at_rest_keeps_blocks_listed.Goals as goal

pub returns-clause-leaves : goal.returns-clause-leaves
returns-clause-leaves r g p clean c s rests l = rest_leaves_listed g p clean c s rests l

pub returns-clause-same : goal.returns-clause-same
returns-clause-same r g p clean c s rests image same l = same_listed g p clean c s rests image same l
