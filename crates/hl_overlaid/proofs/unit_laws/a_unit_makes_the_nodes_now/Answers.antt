use Rattle.hl_overlaid.proofs.UnitMakes.{makes_now}
use Rattle.hl_overlaid.proofs.unit_laws.a_unit_makes_the_nodes_now.Goals as goal

pub returns : goal.returns
returns r g p clean o notes c blocks pieces rest s is = makes_now g p clean o notes c blocks pieces rest s is
