use Rattle.hl_nodes.proofs.AwayListed.{same_lines, kept_away}
use Rattle.hl_nodes.proofs.listing_laws.away_blocks_stay_listed.Goals as goal

pub returns : goal.returns
returns r = record {
  lines = λ g a b shelf c same held. same_lines g a b shelf c same held;
  nodes = λ k shelf other before after keeps held. kept_away k shelf other before after keeps held;
}
