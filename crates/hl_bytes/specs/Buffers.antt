-- A buffer's value is its bytes.
use Rattle.std.specs.Prelude.{ℕ, ◌*◌, List, length, take, drop}
use Rattle.std.specs.Borrow.{Lends, MutBor, Fml, Array, u8}
use Rattle.hl_bytes.specs.Fields.{written}
use Rattle.hl_bytes.specs.contracts.buffer.SegBuf.{the_row}

-- the bytes of `count` blocks from block `from` on
unfoldable pub part_of : List ℕ → ℕ → ℕ → List ℕ
part_of bytes from count = take (4096 * count) (drop (4096 * from) bytes)

-- the bytes with others from block `from` on, and no longer than before
unfoldable pub with_part : List ℕ → ℕ → List ℕ → List ℕ
with_part bytes from part = take (length bytes) (written bytes (4096 * from) part)

-- the buffer ends with what was written through the part
abbrev pub LendsPart : MutBor (List ℕ) → ℕ → MutBor (List ℕ) → Fml
LendsPart buffer from part = Lends the_row (Array u8 0) buffer part (with_part buffer.now from)

-- the bytes of block k
unfoldable pub block_of : List ℕ → ℕ → List ℕ
block_of bytes k = take 4096 (drop (4096 * k) bytes)
