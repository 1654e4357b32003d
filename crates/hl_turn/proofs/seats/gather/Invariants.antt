use Rattle.std.proofs.Common.{◌≡◌, ℕ, ◌++◌, [], vec_len}
use mathlib.Core.Option.{some}
use lib.ListN.{get_elem?}
use Rattle.hl_turn.specs.declared.view.Stage.TheVariants.{Idle}
use Rattle.hl_turn.specs.Views.{IsKept}
use Rattle.hl_turn.proofs.seats.gather.Given as goal

abbrev pub invariant-loop-seat : goal.invariant-loop-seat
invariant-loop-seat g l = (l.place.table_id ≡ l.words.table_id) × (l.place.me.0.stage ≡ Idle) × (l.place.me.1 ≡ []) × (l.place.me.0.holds ≡ [])
    × ((k : ℕ) (t : _) → get_elem? l.seats.items k ≡ some t → (t.table ≡ l.words.table_id) × (t.view.holds ≡ []))
    × ((more : _) × (l.fn.seats.items ≡ l.seats.items ++ more) × ((j : ℕ) (t : _) → get_elem? more j ≡ some t → IsKept t.view.number t.view.mine l.place.me.0))

abbrev pub decreases-loop-seat : goal.decreases-loop-seat
decreases-loop-seat g l = vec_len l.seats
