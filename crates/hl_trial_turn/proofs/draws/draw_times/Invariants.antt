use Rattle.hl_turn.specs.Lock.{IsSeatOf}
use Rattle.hl_trial_turn.specs.Free.{IsSame}
use Rattle.hl_trial_turn.proofs.draws.draw_times.Given as goal

abbrev pub invariant-loop-i : goal.invariant-loop-i
invariant-loop-i g l = IsSeatOf l.turn l.seat × IsSame l.fn.seat l.seat
