use Rattle.hl_nodes.proofs.CheckpointLaws.{first_ends}
use Rattle.hl_nodes.proofs.checkpoint_laws.a_first_checkpoint_brings_the_nodes.Goals as goal

pub returns : goal.returns
returns r g p clean parts t nodes first carries d volumes old q rest new s ready start_is first_is done = first_ends g p clean parts t nodes first carries d volumes old q rest new s ready start_is first_is done
