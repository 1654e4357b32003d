use Rattle.hl_nodes.proofs.Frame.{contents_same}
use Rattle.hl_nodes.proofs.image_laws.contents_are_their_live_blocks.Goals as goal

pub returns : goal.returns
returns r g a b c has newest chain agree = contents_same g a b c agree newest chain has
