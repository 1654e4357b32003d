use Rattle.std.proofs.Common.{◌≡◌, ◌⊎◌, ℕ, ◌/◌, ◌<◌, length}
use Rattle.std.specs.Prelude.{◌↔◌, slice_index}
use Rattle.hl_census.specs.Straying.{IsSet}
use Rattle.hl_census.proofs.marking.mark_all.Given as goal

abbrev pub invariant-addresses : goal.invariant-addresses
invariant-addresses l = record {
  count : length l.flags.items ≡ length l.fn.flags.items;
  each : (seg : ℕ) → seg < length l.fn.flags.items
      → IsSet l.flags.items seg ↔ (IsSet l.fn.flags.items seg ⊎ ((j : ℕ) × (j < l.i) × (slice_index l.addresses j / l.k ≡ seg)));
}
