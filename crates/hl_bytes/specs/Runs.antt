-- Values of one width, one after the other.
use Rattle.std.specs.Prelude.{ℕ, zero, suc, ◌+◌, List, [], ◌∷◌}
use Rattle.std.specs.List.{flat_map}
use Rattle.hl_bytes.specs.Fields.{le32, u32_at}

-- the bytes of each value, one after the other
unfoldable pub run_bytes : {A : Type 0} → (A → List ℕ) → List A → List ℕ
run_bytes spell xs = flat_map spell xs

-- the n values that stand from a place on, where `read` reads one and each is so wide
unfoldable pub run_at : {A : Type 0} → (ℕ → List ℕ → A) → ℕ → ℕ → ℕ → List ℕ → List A
run_at read width at zero bytes = []
run_at read width at (suc n) bytes = read at bytes ∷ run_at read width (at + width) n bytes

-- the bytes of numbers of four bytes
abbrev pub numbers32 : List ℕ → List ℕ
numbers32 ns = run_bytes le32 ns

-- the n numbers of four bytes that stand from a place on
abbrev pub u32s_at : ℕ → ℕ → List ℕ → List ℕ
u32s_at at n bytes = run_at u32_at 4 at n bytes
