use Rattle.hl_nodes.proofs.FateLaws.{fates_make}
use Rattle.hl_nodes.proofs.unit_laws.changed_nodes_are_made.Goals as goal

pub returns : goal.returns
returns r g p clean c first rests u pieces rest cut nodes changes = fates_make g p clean c first rests u pieces rest cut nodes changes
