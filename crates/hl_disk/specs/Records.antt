-- The record of a dump as bytes.
use Rattle.std.specs.Prelude.{◌≡◌, ℕ, ◌-◌, ◌%◌, ◌^◌, ◌<◌, ◌≤◌, List, [], ◌∷◌, ◌++◌, length, take, drop}
use Rattle.hl_bytes.specs.Fields.{le32, le64, u32_at, u64_at}
use Rattle.hl_bytes.specs.Pages.{page}
use Rattle.hl_disk.specs.declared.record.DumpRecord.{DumpRecord}

-- the block of the record of a number: 1 for odd numbers, 2 for even ones
abbrev pub place_of : ℕ → ℕ
place_of number = 2 - number % 2

-- the number is from 1 on and belongs into the block, and the numbers have room in their fields
pub record IsRecord (at : ℕ) (v : DumpRecord) : Type 0 where
  pub number : 1 ≤ v.number
  pub parity : place_of v.number ≡ at
  pub number_fits : v.number < 2 ^ 64
  pub length_fits : v.length < 2 ^ 32
  pub digest : length v.digest ≡ 32

-- the bytes `HLDUMP01`
abbrev pub magic : List ℕ
magic = 72 ∷ 76 ∷ 68 ∷ 85 ∷ 77 ∷ 80 ∷ 48 ∷ 49 ∷ []

-- the fields, one after the other
abbrev pub record_fields : DumpRecord → List ℕ
record_fields v = ((magic ++ le64 v.number) ++ le32 v.length) ++ v.digest

-- the one spelling of a record
unfoldable pub record_bytes : DumpRecord → List ℕ
record_bytes v = page (record_fields v)

-- the disk's block 1 or 2 is the spelling of a record
pub record Spells (at : ℕ) (block : List ℕ) (v : DumpRecord) : Type 0 where
  pub value : IsRecord at v
  pub bytes : block ≡ record_bytes v

-- the candidate: what stands at the fields' places
unfoldable pub record_in : List ℕ → DumpRecord
record_in bytes = record { number = u64_at 8 bytes; length = u32_at 16 bytes; digest = take 32 (drop 20 bytes) }
