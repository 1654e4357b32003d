use Rattle.hl_nodes.proofs.OneVerdict.{one_verdict}
use Rattle.hl_nodes.proofs.image_laws.an_image_breaks_one_rule_first.Goals as goal

pub returns : goal.returns
returns c g image r s a b x y = one_verdict g image r s a b x y
