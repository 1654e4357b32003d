use Rattle.hl_lines.proofs.IndexLemmas.{halved}
use Rattle.hl_lines.proofs.index.place_of.Goals as goal

pub returns : goal.returns
returns c = halved c.args.keys.now c.args.key c.binary_search.result c.requires c.binary_search.ensures.position
