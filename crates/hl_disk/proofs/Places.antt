-- Where the records and the dumps of two numbers in a row stand.
use Rattle.std.proofs.Common.{◌≡◌, ◌≢◌, ◌⊎◌, inl, inr, ⊎_elim, ℕ, ◌+◌, ◌%◌, ◌<◌, ◌≤◌, arith}
use Rattle.std.proofs.lemmas.Bool.{cases_eq}
use Rattle.hl_disk.specs.Records.{place_of}
use Rattle.hl_disk.specs.Disks.{start_of}

pub parity : (n : ℕ) → ((n % 2 ≡ 0) × ((n + 1) % 2 ≡ 1)) ⊎ ((n % 2 ≡ 1) × ((n + 1) % 2 ≡ 0))
parity n = elim (cases_eq (n % 2) 0) [
  | inl even ↦ inl (even, omega arith)
  | inr odd ↦ inr (omega arith, omega arith)
]

-- a record stands in block 1 or 2
pub place_cases : (n : ℕ) → (place_of n ≡ 1) ⊎ (place_of n ≡ 2)
place_cases n = ⊎_elim (λ even. inr (omega arith)) (λ odd. inl (omega arith)) (parity n)

pub place_low : (n : ℕ) → 1 ≤ place_of n
place_low n = ⊎_elim (λ one. omega arith) (λ two. omega arith) (place_cases n)

pub place_high : (n : ℕ) → place_of n ≤ 2
place_high n = ⊎_elim (λ one. omega arith) (λ two. omega arith) (place_cases n)

-- two numbers in a row have two places
pub places_differ : (n : ℕ) → place_of n ≢ place_of (n + 1)
places_differ n same = ⊎_elim {C = ⊥} (λ even. omega arith) (λ odd. omega arith) (parity n)

-- and each other number one of these
pub place_of_two : (m n : ℕ) → (place_of m ≡ place_of n) ⊎ (place_of m ≡ place_of (n + 1))
place_of_two m n = elim (parity m) [
  | inl even ↦ elim (parity n) [ inl a ↦ inl (omega arith) | inr b ↦ inr (omega arith) ]
  | inr odd ↦ elim (parity n) [ inl a ↦ inr (omega arith) | inr b ↦ inl (omega arith) ]
]

-- a dump begins behind the label and the records
pub start_low : (n : ℕ) → 64 ≤ start_of n
start_low n = ⊎_elim (λ even. omega arith) (λ odd. omega arith) (parity n)

-- a block of a number's half isn't in the other half
pub halves : (n k : ℕ) → start_of n ≤ k → k < start_of n + 1024 → (k < start_of (n + 1)) ⊎ (start_of (n + 1) + 1024 ≤ k)
halves n k le lt = ⊎_elim (λ even. inr (omega arith)) (λ odd. inl (omega arith)) (parity n)

pub within : (n : ℕ) → start_of n + 1024 ≤ 2112
within n = ⊎_elim (λ even. omega arith) (λ odd. omega arith) (parity n)
