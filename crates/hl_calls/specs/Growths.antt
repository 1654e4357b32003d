-- How much a call changes what nodes are charged.
use Rattle.std.specs.Prelude.{◌≡◌, ℕ, ◌+◌, Bool, ◌&&◌, nat_lt, List, Option}
use Rattle.hl_media.specs.History.{History}
use Rattle.hl_placed.specs.Blocks.{PlacedFile, Shelf, blocks_of}
use Rattle.hl_placed.specs.Changes.{cut_file, written_file}
use Rattle.hl_placed.specs.Charges.{blocks_charge, parts_charge}
use Rattle.hl_store.specs.Values.{StoreValue}
use Rattle.hl_ranges.specs.Files.{OfFile}
use Rattle.hl_calls.specs.declared.growth.Growth.{Growth}

-- it changes this charge to that one
abbrev pub Grows : Growth → ℕ → ℕ → Type 0
Grows growth before after = after + growth.removed ≡ before + growth.added

-- a charge is above the quota, and above what it was
abbrev pub exceeds : ℕ → ℕ → ℕ → Bool
exceeds quota before after = nat_lt quota after && nat_lt before after

-- what a directory of so many bytes is charged
unfoldable pub directory_charge : ℕ → ℕ
directory_charge size = parts_charge (nat_lt 12 (blocks_of size)) (blocks_of size)

module _ {M : Type 0} where
  -- a change of the file that a number has changes its charge so
  abbrev pub GrowsFile : (M → Option History) → StoreValue M → ℕ
      → (Shelf → PlacedFile → PlacedFile) → Growth → Type 0
  GrowsFile history v ino change growth = OfFile history v ino
      (λ c shelf file. Grows growth (blocks_charge file.blocks)
      (blocks_charge (change shelf file).blocks))

  -- so does a write, at whatever moment
  abbrev pub GrowsByWrite : (M → Option History) → StoreValue M → ℕ → ℕ → List ℕ → Growth → Type 0
  GrowsByWrite history v ino at bytes growth = (now : ℕ)
      → GrowsFile history v ino (λ shelf file. written_file shelf file at bytes now) growth

  -- so does a cut
  abbrev pub GrowsByCut : (M → Option History) → StoreValue M → ℕ → ℕ → Growth → Type 0
  GrowsByCut history v ino size growth = (now : ℕ)
      → GrowsFile history v ino (λ shelf file. cut_file shelf file size now) growth
