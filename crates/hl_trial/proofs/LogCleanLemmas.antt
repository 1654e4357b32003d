-- Clean segments of a trial.
use Rattle.std.proofs.Common.{◌≡◌, ℕ, zero, suc, ◌+◌, ◌<◌, ◌≤◌, [], ◌∷◌, arith}
use Rattle.std.specs.Prelude.{Contains}
use Rattle.hl_addr.specs.Layout.{Layout}
use Rattle.hl_log.specs.Free.{AreClean}

-- the three behind a segment are clean beside it
pub three_clean : (g : Layout) (s : ℕ) → s + 3 ≤ g.log → AreClean g s ((s + 1) ∷ (s + 2) ∷ (s + 3) ∷ [])
three_clean g s within = record { in_log = in_log; once = (λ i. first i, (λ i. second i, ((λ i. third i), tt))); apart = apart } where
  in_log : (c : ℕ) → Contains ((s + 1) ∷ (s + 2) ∷ (s + 3) ∷ []) c → (1 ≤ c) × (c ≤ g.log)
  in_log c (zero, lt, e) = (omega arith, omega arith)
  in_log c (suc zero, lt, e) = (omega arith, omega arith)
  in_log c (suc (suc zero), lt, e) = (omega arith, omega arith)
  in_log c (suc (suc (suc k)), lt, e) = absurd (omega arith)

  first : Contains ((s + 2) ∷ (s + 3) ∷ []) (s + 1) → ⊥
  first (zero, lt, e) = omega arith
  first (suc zero, lt, e) = omega arith
  first (suc (suc k), lt, e) = omega arith

  second : Contains ((s + 3) ∷ []) (s + 2) → ⊥
  second (zero, lt, e) = omega arith
  second (suc k, lt, e) = omega arith

  third : Contains [] (s + 3) → ⊥
  third (k, lt, e) = omega arith

  apart : Contains ((s + 1) ∷ (s + 2) ∷ (s + 3) ∷ []) s → ⊥
  apart (zero, lt, e) = omega arith
  apart (suc zero, lt, e) = omega arith
  apart (suc (suc zero), lt, e) = omega arith
  apart (suc (suc (suc k)), lt, e) = omega arith
