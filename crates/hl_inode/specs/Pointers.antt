-- A pointer block as bytes.
use Rattle.std.specs.Prelude.{ℕ, List}
use Rattle.hl_bytes.specs.Runs.{u32s_at}

-- the 1,024 addresses of a pointer block
unfoldable pub pointers_of : List ℕ → List ℕ
pointers_of block = u32s_at 0 1024 block
