-- How many blocks of a file are resident, and whether it has any.
use Rattle.std.specs.Prelude.{◌≡◌, ℕ, zero, suc, ◌+◌, ◌/◌, ◌%◌, ◌<◌, ◌≤◌, ◌&&◌, nat_lt, Bool, true, false, if◌then◌else◌}
use Rattle.hl_placed.specs.Blocks.{Away, Block, Here, Hole, is_here, is_hole}

-- the block is in a tertiary segment
abbrev pub is_away : Block → Bool
is_away Hole = false
is_away (Here bytes) = false
is_away (Away serial position) = true

-- how many of the first n blocks are resident
unfoldable pub here_below : (ℕ → Block) → ℕ → ℕ
here_below block zero = 0
here_below block (suc n) = here_below block n + (if is_here (block n) then 1 else 0)

-- whether some block from one up to another is no hole
abbrev pub TellsBlocks : (ℕ → Block) → ℕ → ℕ → Bool → Type 0
TellsBlocks block from end true =
    (k : ℕ) × (from ≤ k) × (k < end) × (is_hole (block k) ≡ false)
TellsBlocks block from end false = (k : ℕ) → from ≤ k → k < end → is_hole (block k) ≡ true

-- one, if a size ends within a block that is away
abbrev pub away_edge : (ℕ → Block) → ℕ → ℕ
away_edge block size = if nat_lt 0 (size % 4096) && is_away (block (size / 4096)) then 1 else 0
