use Rattle.std.proofs.Common.{rules}
use Rattle.atomic_table.proofs.Lists.{at_index}
use Rattle.hl_turn.proofs.SeatRows.{get_at}
use Rattle.hl_trial_turn.proofs.tests.hold_and_look.Goals as goal

pub for_each_mut-requires-clause-accepts : goal.for_each_mut-requires-clause-accepts
for_each_mut-requires-clause-accepts g c κs within = λ i p near is. let h = c.requires i p.now (get_at c.args.seats.now i p.now (at_index c.args.seats.now i p.now near is)) in (search rules, h.0)
