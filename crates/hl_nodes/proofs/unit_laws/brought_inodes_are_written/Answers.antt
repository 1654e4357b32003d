use Rattle.hl_nodes.proofs.BringLaws.{brings_write}
use Rattle.hl_nodes.proofs.unit_laws.brought_inodes_are_written.Goals as goal

pub returns : goal.returns
returns r g p clean c first rests u pieces rest cut ino index node brings = brings_write g p clean c first rests u pieces rest cut ino index node brings
