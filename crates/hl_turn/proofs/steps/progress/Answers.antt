use Rattle.std.proofs.Common.{rules}
use Rattle.hl_turn.proofs.SeatSteps.{looks_at}
use Rattle.hl_turn.proofs.steps.progress.Goals as goal

pub load-requires : goal.load-requires
load-requires g c = (search rules, search rules, looks_at g.T.Object.entries g.T.Object.seat_of g.T.Object.legal_over g.T.Object.jobs_out g.T.Object.meets _ _ _ _ _ c.requires.idle)
