-- Bytes in whole blocks.
use Rattle.std.specs.Prelude.{◌≡◌, ℕ, ◌*◌, ◌/◌, ◌^◌, ◌<◌, List, length}

-- whole blocks, and fewer of them than 2^32
pub record IsBuffer (bytes : List ℕ) : Type 0 where
  pub whole : 4096 * (length bytes / 4096) ≡ length bytes
  pub few : length bytes / 4096 < 2 ^ 32
