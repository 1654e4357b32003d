use Rattle.std.proofs.Common.{rules}
use Rattle.hl_turn.proofs.SeatSteps.{takes_at}
use Rattle.hl_turn.proofs.steps.await_turn.Goals as goal

pub load-found-requires : goal.load-found-requires
load-found-requires g c = (search rules, search rules, takes_at g.T.Object.entries g.T.Object.seat_of g.T.Object.legal_over g.T.Object.jobs_out g.T.Object.meets _ _ _ _ _ (search rules))
