use Rattle.hl_overlaid.proofs.BehindLemmas.{laid_freed, laid_noted, laid_others, laid_written}
use Rattle.hl_overlaid.proofs.unit_laws.a_unit_lays_its_inodes_and_frees_its_numbers.Goals as goal

pub returns-clause-noted : goal.returns-clause-noted
returns-clause-noted r g p clean o notes c blocks pieces rest s is = laid_noted g p clean o notes c blocks pieces rest s is

pub returns-clause-written : goal.returns-clause-written
returns-clause-written r g p clean o notes c blocks pieces rest s is n b at own = laid_written g p clean o notes c blocks pieces rest s is n b at own

pub returns-clause-freed : goal.returns-clause-freed
returns-clause-freed r g p clean o notes c blocks pieces rest s is ino i = laid_freed g p clean o notes c blocks pieces rest s is ino i

pub returns-clause-others : goal.returns-clause-others
returns-clause-others r g p clean o notes c blocks pieces rest s is ino none kept = laid_others g p clean o notes c blocks pieces rest s is ino none kept
