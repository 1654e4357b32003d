use Rattle.std.proofs.Common.{◌≡◌, ℕ, ◌<◌, slice_index}
use Rattle.hl_recovery.proofs.tables.stands_before.Given as goal

abbrev pub invariant-earlier : goal.invariant-earlier
invariant-earlier l = (k : ℕ) → k < l.j → slice_index l.addresses k ≡ l.address → ⊥
