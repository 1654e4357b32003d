use Rattle.hl_overlaid.proofs.ShapeLemmas.{shaped_now, shaped_over}
use Rattle.hl_overlaid.proofs.change_laws.a_shape_is_set.Goals as goal

pub returns-clause-nodes : goal.returns-clause-nodes
returns-clause-nodes r g image c old new ino shape is = shaped_now g image c old new ino shape is

pub returns-clause-over : goal.returns-clause-over
returns-clause-over r g image c old new ino shape is = shaped_over g image c old new ino shape is
