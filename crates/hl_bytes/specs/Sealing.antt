-- Bytes with their digest.
use Rattle.std.specs.Prelude.{ℕ, List, ◌++◌}
use Rattle.sha2.specs.Sha256.{sha256}

-- bytes, and behind them their digest
unfoldable pub sealed : List ℕ → List ℕ
sealed bytes = bytes ++ sha256 bytes

-- the front of a block and the blocks behind that block, with the digest of both between them
unfoldable pub sealed_over : List ℕ → List ℕ → List ℕ
sealed_over front behind = (front ++ sha256 (front ++ behind)) ++ behind
