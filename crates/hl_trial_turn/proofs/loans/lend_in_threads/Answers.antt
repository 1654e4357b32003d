use Rattle.hl_trial_turn.proofs.Rows.{free_after}
use Rattle.hl_trial_turn.proofs.loans.lend_in_threads.Goals as goal

pub returns-clause-free : goal.returns-clause-free
returns-clause-free g c = free_after c.args.turn.now c.args.seats.now c.lend_each.new.seats c.lend_each.auto.seats c.requires.free c.lend_each.ensures
