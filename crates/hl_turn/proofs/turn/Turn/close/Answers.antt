use Rattle.std.proofs.Common.{sym, ap, ◌∙◌}
use Rattle.hl_turn.proofs.SeatRows.{get_at, at_get}
use Rattle.hl_turn.proofs.Ends.{closes}
use Rattle.hl_turn.proofs.turn.Turn.close.Goals as goal

pub gather-place-requires-clause-fits : goal.gather-place-requires-clause-fits
gather-place-requires-clause-fits g c = (c.self.invariant.0, λ k t e. let at = get_at _ k t e in ((c.requires.all.1 k t at).0.table ∙ sym (ap (λ l. l.table) c.self.view_is), c.requires.no_jobs k t at))

pub returns : goal.returns
returns g c = let o = g.T.Object in let k = c.self.inside.table.shared.key in let p = c.gather-place.result in
    let e = closes o.entries o.seat_of o.legal_over o.jobs_out o.meets k.opening.value k.seats c.args.seats.items p.id p.me.0 _ c.take-object.result _ c.gather-place.ensures.fits.1 c.gather-place.ensures.fits.3
    (c.requires.all.0 ∙ sym (ap (λ l. l.seats) c.self.view_is)) (λ i t at. (c.requires.all.1 i t (get_at _ i t at)).1) c.gather-place.ensures.kept c.take-object.ensures.value c.close_with-closed.ensures.values.2 in
    rw (← c.self.view_is) record { legal = e.legal; mine = λ i t at. e.mine i t (at_get _ i t at); no_others = e.no_others; none_out = e.none_out }
