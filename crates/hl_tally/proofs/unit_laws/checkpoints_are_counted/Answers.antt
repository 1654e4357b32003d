use Rattle.hl_tally.proofs.TableLaws.{table_tally}
use Rattle.hl_tally.proofs.WrittenLaws.{checkpointed_tally}
use Rattle.hl_tally.proofs.unit_laws.checkpoints_are_counted.Goals as goal

pub returns-clause-kept : goal.returns-clause-kept
returns-clause-kept r g before image c new t o n has inodes kept behind tally = table_tally g before image c new t o has inodes kept behind n tally

pub returns-clause-written : goal.returns-clause-written
returns-clause-written r g p clean d t c first of q left new s done o n tally = checkpointed_tally g p clean d t c first of q left new s done o n tally
