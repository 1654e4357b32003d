use Rattle.hl_nodes.proofs.SoundCheckpoints.{checkpoint_sound}
use Rattle.hl_nodes.proofs.checkpoint_laws.checkpoints_keep_contents_sound.Goals as goal

pub returns : goal.returns
returns r g p clean c first d t of image keeps either = checkpoint_sound g p clean c first d t of image keeps either
