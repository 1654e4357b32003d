-- How far a pointer block was looked over.
use Rattle.std.proofs.Common.{◌≡◌, ◌≢◌, ℕ, ◌+◌, ◌<◌, ◌≤◌, Bool, true, false, List}
use Rattle.hl_placed.specs.Blocks.{blocks_of}
use Rattle.hl_survey.specs.Pointing.{number_at}

-- of the pointers before i some was named, or none was, and none was past the size
pub record Looked (size : ℕ) (block : List ℕ) (i : ℕ) (named : Bool) : Type 0 where
  pub some : named ≡ true → (j : ℕ) × (j < 1024) × (number_at block j ≢ 4294967295)
  pub none : named ≡ false → (j : ℕ) → j < i → number_at block j ≡ 4294967295
  pub within : (j : ℕ) → j < i → blocks_of size ≤ 12 + j → number_at block j ≡ 4294967295
