use Rattle.hl_tally.proofs.ShapeLaws.{shape_tally}
use Rattle.hl_tally.proofs.laws.changed_shapes_are_counted.Goals as goal

pub returns : goal.returns
returns r g image c old new ino shape d n ch was tally = shape_tally g old new image c ino shape d ch was n tally
