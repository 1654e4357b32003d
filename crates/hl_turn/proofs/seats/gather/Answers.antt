use Rattle.std.proofs.Common.{rules, arith, ◌≡◌, ℕ, ◌++◌, sym, ap, ◌∙◌, subst, refl, List, [], ◌∷◌, length, append_assoc}
use mathlib.Core.Option.{some}
use lib.ListN.{get_elem?}
use Rattle.atomic_table.proofs.Lists.{at_longer}
use Rattle.hl_turn.specs.declared.view.View.{View}
use Rattle.hl_turn.specs.Views.{both, IsKept}
use Rattle.hl_turn.specs.Lock.{Seated}
use Rattle.hl_turn.proofs.Lists.{at_middle}
use Rattle.hl_turn.proofs.Joining.{joins_seats}
use Rattle.hl_turn.proofs.SeatRows.{first_kept, more_kept}
use Rattle.hl_turn.proofs.seats.gather.Goals as goal

pub loop-seat-init : goal.loop-seat-init
loop-seat-init g c =
    let A : Type 0 = Seated g.row.T.Denot g.row.T-Entry.Denot g.row.T-Item.Denot g.row.T-Claim.Denot in
    let V : Type 0 = View g.row.T.Denot g.row.T-Entry.Denot g.row.T-Item.Denot g.row.T-Claim.Denot in
    let last : A = c.in-Some.last in let rest : List A = c.pop.new.self.items in
    let items : c.args.seats.items ≡ rest ++ last ∷ [] = c.in-Some.ensures.items in
    let own = c.requires.fits.1 (length rest) last (subst (λ (l : List A). get_elem? l (length rest) ≡ some last) (sym items) (at_middle rest [] last)) in (
      ap (λ (s : A). s.table) c.last.view_is ∙ own.0,
      c.last.invariant.1,
      c.last.invariant.2,
      ap (λ (s : A). s.view.holds) c.last.view_is ∙ own.1,
      (λ k t e. c.requires.fits.1 k t (subst (λ (l : List A). get_elem? l k ≡ some t) (sym items) (at_longer rest (last ∷ []) k t e))),
      (last ∷ [], items, subst (λ (v : V). (j : ℕ) (t : A) → get_elem? (last ∷ []) j ≡ some t → IsKept t.view.number t.view.mine v) (sym (ap (λ (s : A). s.view) c.last.view_is)) (first_kept last)),
    )

pub join_seat-requires : goal.join_seat-requires
join_seat-requires g c = let o = g.T.Object in let k = c.args.words.now.key in
    let A : Type 0 = Seated g.row.T.Denot g.row.T-Entry.Denot g.row.T-Item.Denot g.row.T-Claim.Denot in
    let last : A = c.in-Some-pop.seat in let rest : List A = c.pop-in-loop-seat.new.self.items in
    let items : c.loop-seat.seats.items ≡ rest ++ last ∷ [] = c.in-Some-pop.ensures.items in
    let own = c.loop-seat.invariant.4 (length rest) last (subst (λ (l : List A). get_elem? l (length rest) ≡ some last) (sym items) (at_middle rest [] last)) in (
      c.loop-seat.invariant.0,
      ap (λ (s : A). s.table) c.seat.view_is ∙ own.0,
      c.seat.invariant.2,
      search rules,
      joins_seats o.entries o.seat_of o.legal_over o.jobs_out o.meets k.opening.value k.seats _ _ _ _ c.loop-seat.invariant.1 c.seat.invariant.1 (ap (λ (s : A). s.view.holds) c.seat.view_is ∙ own.1),
    )

pub loop-seat-preserved : goal.loop-seat-preserved
loop-seat-preserved g c =
    let A : Type 0 = Seated g.row.T.Denot g.row.T-Entry.Denot g.row.T-Item.Denot g.row.T-Claim.Denot in
    let V : Type 0 = View g.row.T.Denot g.row.T-Entry.Denot g.row.T-Item.Denot g.row.T-Claim.Denot in
    let inv = c.loop-seat.invariant in let j = c.join_seat.ensures in
    let last : A = c.in-Some-pop.seat in let rest : List A = c.pop-in-loop-seat.new.self.items in
    let items : c.loop-seat.seats.items ≡ rest ++ last ∷ [] = c.in-Some-pop.ensures.items in
    let more : List A = inv.5.0 in (
      j.0 ∙ inv.0,
      ap (λ m. m.0.stage) j.2 ∙ inv.1,
      ap (λ m. m.1) j.2 ∙ inv.2,
      ap (λ m. m.0.holds) j.2 ∙ inv.3,
      (λ k t e. inv.4 k t (subst (λ (l : List A). get_elem? l k ≡ some t) (sym items) (at_longer rest (last ∷ []) k t e))),
      (
        last ∷ more,
        inv.5.1 ∙ (ap (λ (l : List A). l ++ more) items ∙ append_assoc rest (last ∷ []) more),
        subst (λ (v : V). (i : ℕ) (t : A) → get_elem? (last ∷ more) i ≡ some t → IsKept t.view.number t.view.mine v) (sym (ap (λ m. m.0) j.2 ∙ ap (λ (s : A). both c.loop-seat.place.me.0 s.view) c.seat.view_is))
            (more_kept more last c.loop-seat.place.me.0 inv.5.2),
      ),
    )

nothing : {A : Type 0} (l : List A) → length l ≡ 0 → l ≡ []
nothing [] e = refl
nothing (x ∷ xs) e = absurd (omega (arith, e))

pub returns-clause-kept : goal.returns-clause-kept
returns-clause-kept g c =
    let A : Type 0 = Seated g.row.T.Denot g.row.T-Entry.Denot g.row.T-Item.Denot g.row.T-Claim.Denot in
    let inv = c.loop-seat.invariant in let l : List A = c.loop-seat.seats.items in
    let zero : length l ≡ 0 = grind (arith, c.in_default-pop.ensures.cases.0, c.loop-seat.seats.ok) in
    λ k t e. inv.5.2 k t (subst (λ (z : List A). get_elem? z k ≡ some t) (inv.5.1 ∙ ap (λ (z : List A). z ++ inv.5.0) (nothing l zero)) e)
