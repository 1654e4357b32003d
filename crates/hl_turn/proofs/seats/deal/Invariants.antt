use Rattle.std.proofs.Common.{◌≡◌, ℕ, ◌+◌, ◌≤◌, Some, [], length, vec_len, vec_capacity}
use mathlib.Core.Option.{some}
use lib.ListN.{get_elem?}
use Rattle.hl_turn.specs.Views.{dealing, IsFresh}
use Rattle.hl_turn.proofs.seats.deal.Given as goal

abbrev pub invariant-loop-i : goal.invariant-loop-i
invariant-loop-i g l = (l.first.table_id ≡ l.words.table_id) × (l.first.me ≡ (dealing l.words.key.opening.value l.i, [])) × (length l.row.items + 1 ≡ l.i) × (vec_len l.row + 1 ≡ l.i) × (l.seats ≤ vec_capacity l.row)
    × ((k : ℕ) (t : _) → get_elem? l.row.items k ≡ some t → (t.view.number ≡ k + 1) × (t.table ≡ l.words.table_id) × (t.view.opening ≡ Some l.words.key.opening.value) × IsFresh t.view)
