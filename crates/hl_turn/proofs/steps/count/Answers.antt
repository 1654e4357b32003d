use Rattle.std.proofs.Common.{rules, sym, subst}
use Rattle.hl_turn.specs.Jobs.{Shifts}
use Rattle.hl_turn.proofs.SeatSteps.{counts_one}
use Rattle.hl_turn.proofs.steps.count.Goals as goal

pub fetch_add-requires : goal.fetch_add-requires
fetch_add-requires g c = let o = g.T.Object in let m = c.requires.may in (
  search rules,
  search rules,
  counts_one o.entries o.seat_of o.legal_over o.jobs_out o.meets _ _ _ _ _ m.0 m.1 m.2 g.W.Left.left m.3 m.4 m.5 m.6
      (subst (λ h. Shifts o.meets c.args.seat.now.me.0.holds c.args.seat.now.me.0.outs h (o.jobs_out m.1 m.0)) (sym c.requires.left) m.7) m.8,
)
