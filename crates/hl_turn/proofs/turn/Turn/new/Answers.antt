use Rattle.std.proofs.Common.{◌≡◌, arith, sym, subst, [], ◌∷◌}
use Rattle.atomic_table.specs.Table.{opening}
use Rattle.hl_turn.specs.Views.{starting}
use Rattle.hl_turn.specs.Rule.{LockRule}
use Rattle.hl_turn.proofs.SeatRows.{at_get}
use Rattle.hl_turn.proofs.Ends.{starts}
use Rattle.hl_turn.proofs.turn.Turn.new.Goals as goal

pub new-requires : goal.new-requires
new-requires g c = let o = g.T.Object in let x = c.args.object in let n = c.args.seats in
    let legal = g.met.T.Object.empty_is_legal x c.requires.no_entries c.requires.no_jobs in
    subst (λ l. LockRule o.entries o.seat_of o.legal_over o.jobs_out o.meets c.of.result.value n (opening (0 ∷ 0 ∷ 0 ∷ []) l (starting c.of.result.value))) (sym c.in_ok-slots.ensures.ok)
    (starts o.entries o.seat_of o.legal_over o.jobs_out o.meets c.of.result.value n x c.requires.no_entries (subst (λ y. o.jobs_out y x ≡ []) (sym c.of.ensures) c.requires.no_jobs) (subst (λ y. o.legal_over y x) (sym c.of.ensures) legal) c.requires.some (omega (arith, c.ranges.seats)))

pub returns-in-Ok-new-clause-seats : goal.returns-in-Ok-new-clause-seats
returns-in-Ok-new-clause-seats g c = (
  search,
  λ k t at. let h = c.deal-row.ensures.each k t (at_get _ k t at) in (record { table = h.1; opening = h.2 }, h.0),
)

pub returns-in-Ok-new-clause-fresh : goal.returns-in-Ok-new-clause-fresh
returns-in-Ok-new-clause-fresh g c = λ k t at. (c.deal-row.ensures.each k t (at_get _ k t at)).3
