use Rattle.std.proofs.Common.{◌≡◌, ◌≤◌, ℕ, [], take, get_or, length}
use Rattle.hl_mem.proofs.volume.copy_slots.Given as goal

abbrev pub invariant-copy : goal.invariant-copy
invariant-copy l = record {
  copied : take l.i l.to.items ≡ take l.i l.from.items;
  many : length l.to.items ≡ length l.from.items;
  sizes : (k : ℕ) → l.i ≤ k → length (get_or l.to.items k []) ≡ length (get_or l.from.items k []);
}
