use Rattle.hl_nodes.proofs.MomentLaws.{checkpoint_keeps, checkpoint_kept}
use Rattle.hl_nodes.proofs.checkpoint_laws.checkpoints_keep_nodes.Goals as goal

pub returns-clause-crash : goal.returns-clause-crash
returns-clause-crash r g p clean d t before now run = checkpoint_keeps g p clean before now d t run

pub returns-clause-ends : goal.returns-clause-ends
returns-clause-ends r g p clean d t q left new before now at ends = checkpoint_kept g p clean before now d t q left new at ends
