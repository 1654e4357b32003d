use Rattle.hl_turn.specs.Jobs.{held_after}
use Rattle.hl_turn.proofs.steps.step.Given as goal

abbrev pub ghosts-count : goal.ghosts-count
ghosts-count g a = record { left = held_after g.T.Object.brings g.T.Object.takes a.seat.now.me.0.holds a._asked.now.value a._answer.now }
