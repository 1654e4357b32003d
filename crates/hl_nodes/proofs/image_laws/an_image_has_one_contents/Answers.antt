use Rattle.hl_nodes.proofs.Determined.{one_contents}
use Rattle.hl_nodes.proofs.image_laws.an_image_has_one_contents.Goals as goal

pub returns : goal.returns
returns r g image c d x y = one_contents g image c d x y
