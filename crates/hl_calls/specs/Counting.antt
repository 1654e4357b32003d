-- What is found of a file's size and blocks on the way to how much a call changes its charge.
use Rattle.std.specs.Prelude.{◌≡◌, ℕ, ◌+◌, Bool, Option}
use Rattle.hl_media.specs.History.{History}
use Rattle.hl_placed.specs.Blocks.{blocks_of, file_block}
use Rattle.hl_store.specs.Values.{StoreValue}
use Rattle.hl_ranges.specs.Files.{OfFile}
use Rattle.hl_calls.specs.Residents.{TellsBlocks, away_edge, here_below}

module _ {M : Type 0} where
  -- the file that a number has is of this size
  abbrev pub HasSize : (M → Option History) → StoreValue M → ℕ → ℕ → Type 0
  HasSize history v ino size = OfFile history v ino (λ c shelf file. size ≡ file.size)

  -- it has so many blocks, holes among them
  abbrev pub HasCount : (M → Option History) → StoreValue M → ℕ → ℕ → Type 0
  HasCount history v ino count = OfFile history v ino (λ c shelf file. count ≡ blocks_of file.size)

  -- so many of its blocks from one up to another are resident
  abbrev pub CountsHere : (M → Option History) → StoreValue M → ℕ → ℕ → ℕ → ℕ → Type 0
  CountsHere history v ino from end count = OfFile history v ino (λ c shelf file.
      here_below (file_block file) from + count ≡ here_below (file_block file) end)

  -- whether one of them is no hole
  abbrev pub FindsBlocks : (M → Option History) → StoreValue M → ℕ → ℕ → ℕ → Bool → Type 0
  FindsBlocks history v ino from end found = OfFile history v ino (λ c shelf file.
      TellsBlocks (file_block file) from end found)

  -- how many blocks a cut to this size makes resident
  abbrev pub CountsEdge : (M → Option History) → StoreValue M → ℕ → ℕ → ℕ → Type 0
  CountsEdge history v ino size count = OfFile history v ino (λ c shelf file.
      count ≡ away_edge (file_block file) size)
