-- What holds at no number, since it would at a lower one.
use Rattle.std.proofs.Common.{ℕ, zero, suc, ◌<◌, arith}

module _ (P : ℕ → Type 0) (falls : (n : ℕ) → P n → (m : ℕ) × (m < n) × P m) where
  below : (bound n : ℕ) → n < bound → P n → ⊥
  below zero n lt holds = omega arith
  below (suc bound) n lt holds =
      let f = falls n holds in
      let less = f.1 in
      below bound f.0 (omega arith) f.2

  -- A DESCENT ENDS
  pub never_falls : (n : ℕ) → P n → ⊥
  never_falls n holds = below (suc n) n (omega arith) holds
