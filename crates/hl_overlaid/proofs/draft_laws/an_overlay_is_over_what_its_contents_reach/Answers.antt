use Rattle.hl_overlaid.proofs.ImageLemmas.{over_contents, over_log, over_there}
use Rattle.hl_overlaid.proofs.draft_laws.an_overlay_is_over_what_its_contents_reach.Goals as goal

pub returns-clause-live : goal.returns-clause-live
returns-clause-live r g a b c o has same over = over_there g a b c has same o over

pub returns-clause-log : goal.returns-clause-log
returns-clause-log r g a b c o has same over = over_log g a b c has same o over

pub returns-clause-contents : goal.returns-clause-contents
returns-clause-contents r g image c e o nodes inodes slots over = over_contents g image c e nodes inodes slots o over
