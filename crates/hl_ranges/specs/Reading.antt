-- What is read of a part of a file.
use Rattle.std.specs.Prelude.{◌≡◌, ℕ, ◌-◌, ◌/◌, ◌%◌, ◌<◌, List, ◌++◌, get_or, map, Option}
use Rattle.std.specs.List.{range_with_len}
use Rattle.hl_media.specs.Causes.{Rose}
use Rattle.hl_media.specs.History.{History}
use Rattle.hl_placed.specs.Blocks.{PlacedFile, Shelf, byte_of, file_block}
use Rattle.hl_store.specs.Values.{StoreValue}
use Rattle.hl_ranges.specs.declared.ranges.RangeStep.{RangeStep}
use Rattle.hl_ranges.specs.declared.ranges.RangeStep.TheVariants as step
use Rattle.hl_ranges.specs.Files.{OfFile}

-- byte j of a file; zeros past the end, by the shelf
abbrev pub file_byte : Shelf → PlacedFile → ℕ → ℕ
file_byte shelf file j = byte_of shelf (file_block file (j / 4096)) (j % 4096)

-- the bytes of a file from one up to another
unfoldable pub bytes_between : Shelf → PlacedFile → ℕ → ℕ → List ℕ
bytes_between shelf file from to = map (file_byte shelf file) (range_with_len from (to - from))

module _ {M : Type 0} where
  -- The bytes of block i of a file.
  abbrev pub ReadsBlock : (M → Option History) → (M → ℕ) → StoreValue M → StoreValue M → ℕ → ℕ → List ℕ → RangeStep → Type 0
  ReadsBlock history faults old new ino i bytes step.Done =
      OfFile history old ino (λ c shelf file. (k : ℕ) → k < 4096 → get_or bytes k 0 ≡ byte_of shelf (file_block file i) k)
  ReadsBlock history faults old new ino i bytes step.DiskFault = Rose (faults old.log.machine) (faults new.log.machine)
  ReadsBlock history faults old new ino i bytes step.Memory = Unit {0}

  -- What a read of a part appends. Else nothing is appended.
  abbrev pub ReadsPart : (M → Option History) → (M → ℕ) → StoreValue M → StoreValue M → ℕ → ℕ → ℕ → List ℕ → List ℕ → RangeStep → Type 0
  ReadsPart history faults old new ino from to before out step.Done =
      (own : List ℕ) × (out ≡ before ++ own) × OfFile history old ino (λ c shelf file. own ≡ bytes_between shelf file from to)
  ReadsPart history faults old new ino from to before out step.DiskFault =
      (out ≡ before) × Rose (faults old.log.machine) (faults new.log.machine)
  ReadsPart history faults old new ino from to before out step.Memory = out ≡ before
