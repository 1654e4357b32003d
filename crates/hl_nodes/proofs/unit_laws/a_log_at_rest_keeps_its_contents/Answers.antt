use Rattle.hl_nodes.proofs.RestLaws.{rest_leaves}
use Rattle.hl_nodes.proofs.unit_laws.a_log_at_rest_keeps_its_contents.Goals as goal

pub returns : goal.returns
returns r g p clean c s rests = rest_leaves g p clean c s rests
