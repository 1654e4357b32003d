use Rattle.std.proofs.Common.{rules, ◌≡◌, ℕ, ◌+◌, sym, ap, ◌∙◌, subst, refl, Some, List}
use mathlib.Core.Option.{some}
use lib.ListN.{get_elem?}
use Rattle.atomic_table.specs.Table.{Splits}
use Rattle.hl_turn.specs.Lock.{Seated}
use Rattle.hl_turn.specs.Views.{dealing, left, right, IsFresh}
use Rattle.hl_turn.specs.Rule.{LockRule}
use Rattle.hl_turn.proofs.Joining.{splits_seat}
use Rattle.hl_turn.proofs.SeatRows.{next_dealt}
use Rattle.hl_turn.proofs.seats.deal.Goals as goal

pub split_seat-place-requires : goal.split_seat-place-requires
split_seat-place-requires g c = let o = g.T.Object in let k = c.args.words.now.key in (
  search rules,
  search rules,
  subst (λ v. Splits (LockRule o.entries o.seat_of o.legal_over o.jobs_out o.meets k.opening.value k.seats) c.loop-i.first.id v (left v) (right v)) (sym (ap (λ m. m.0) c.loop-i.invariant.1))
      (splits_seat o.entries o.seat_of o.legal_over o.jobs_out o.meets k.opening.value k.seats c.loop-i.first.id (dealing k.opening.value c.loop-i.i) refl (search rules) (search rules)),
)

pub loop-i-preserved : goal.loop-i-preserved
loop-i-preserved g c = let k = c.args.words.now.key in let inv = c.loop-i.invariant in let d = c.split_seat-place.ensures in
    let A : Type 0 = Seated g.row.T.Denot g.row.T-Entry.Denot g.row.T-Item.Denot g.row.T-Claim.Denot in
    let P : ℕ → A → Type 0 = λ n t. (t.view.number ≡ n) × (t.table ≡ c.args.words.now.table_id) × (t.view.opening ≡ Some k.opening.value) × IsFresh t.view in
    let e : c.split_seat-place.result.me.0 ≡ right (dealing k.opening.value c.loop-i.i) = ap (λ m. m.0) d.4 ∙ ap (λ m. right m.0) inv.1 in (
      search rules,
      d.2 ∙ ap (λ m. (left m.0, m.1)) inv.1,
      search rules,
      search rules,
      search rules,
      subst (λ (l : List A). (j : ℕ) (t : A) → get_elem? l j ≡ some t → P (j + 1) t) (sym c.in-Ok.ensures.items)
          (next_dealt P c.loop-i.row.items _ c.loop-i.i inv.2 inv.5 (ap (λ v. v.number) e, d.3 ∙ inv.0, ap (λ v. v.opening) e, record { seen = ap (λ v. v.seen) e; mine = ap (λ v. v.mine) e; ended = ap (λ v. v.ended) e; holds = ap (λ v. v.holds) e })),
    )
