use Rattle.hl_overlaid.proofs.PutLemmas.{put_now, put_over, put_there}
use Rattle.hl_overlaid.proofs.change_laws.a_block_is_put_into_its_node.Goals as goal

pub returns-clause-there : goal.returns-clause-there
returns-clause-there r g image c old new ino i h puts = put_there g image c old new ino i h puts

pub returns-clause-nodes : goal.returns-clause-nodes
returns-clause-nodes r g image c old new ino i h puts n is = put_now g image c old new ino i h puts n is

pub returns-clause-over : goal.returns-clause-over
returns-clause-over r g image c old new ino i h puts can = put_over g image c old new ino i h puts can
