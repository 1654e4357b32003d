-- The bytes of a file.
use Rattle.std.specs.Prelude.{ℕ, ◌+◌, ◌-◌, List, ◌++◌, length, take, drop, replicate, min}

-- the bytes with that size: cut, or with zeros at the end
unfoldable pub resized : List ℕ → ℕ → List ℕ
resized bytes size = take size bytes ++ replicate (size - length bytes) 0

-- these bytes stand at at; a gap is zeros
unfoldable pub written : List ℕ → ℕ → List ℕ → List ℕ
written old at bytes = resized old at ++ bytes ++ drop (at + length bytes) old

-- what a read of len bytes from at on gives
unfoldable pub read_at : List ℕ → ℕ → ℕ → List ℕ
read_at bytes at len = take (min len 32768) (drop at bytes)
