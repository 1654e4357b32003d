use Rattle.hl_survey.proofs.Looking.{Looked}
use Rattle.hl_survey.proofs.pointers.names_own_blocks.Given as goal

abbrev pub invariant-pointers : goal.invariant-pointers
invariant-pointers l = Looked l.size l.block l.i l.named
