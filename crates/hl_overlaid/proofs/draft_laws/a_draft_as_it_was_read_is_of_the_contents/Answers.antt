use Rattle.hl_overlaid.proofs.ReadLemmas.{read_of, unused_of}
use Rattle.hl_overlaid.proofs.draft_laws.a_draft_as_it_was_read_is_of_the_contents.Goals as goal

pub returns-clause-unused : goal.returns-clause-unused
returns-clause-unused r g image c has d reads = unused_of g image c has d reads

pub returns-clause-node : goal.returns-clause-node
returns-clause-node r g image c has d reads = read_of g image c has d reads
