use Rattle.hl_trial_turn.proofs.Rows.{free_after}
use Rattle.hl_trial_turn.proofs.draws.draw_in_threads.Goals as goal

pub returns-clause-free : goal.returns-clause-free
returns-clause-free g c = free_after c.args.turn.now c.args.seats.now c.draw_each.new.seats c.draw_each.auto.seats c.requires.free c.draw_each.ensures
