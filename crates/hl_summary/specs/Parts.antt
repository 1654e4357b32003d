-- A part of the log as bytes.
use Rattle.std.specs.Prelude.{◌≡◌, ℕ, ◌+◌, ◌-◌, ◌*◌, ◌^◌, ◌<◌, ◌≤◌, ◌==◌, if◌then◌else◌, min, Bool, List, [], ◌∷◌, ◌++◌, length, sum, All}
use Rattle.std.specs.List.{AllByRecursion}
use Rattle.hl_addr.specs.Layout.{Layout, table_blocks}
use Rattle.hl_bytes.specs.Fields.{le32, le64, u32_at, u64_at, zeros}
use Rattle.hl_bytes.specs.Records.{IsBlockRecord, IsTableRecord, block_records_bytes, table_records_bytes, block_records_at, table_records_at}
use Rattle.hl_bytes.specs.Pages.{page_over}
use Rattle.hl_bytes.specs.Buffers.{part_of}
use Rattle.hl_summary.specs.Ranges.{IsPlace, IsNextPlace, IsBlockOf, IsChangeOf}
use Rattle.hl_bytes.specs.declared.records.BlockRecord.{BlockRecord}
use Rattle.hl_bytes.specs.declared.records.TableRecord.{TableRecord}
use Rattle.hl_summary.specs.declared.parts.Heading.{Heading}
use Rattle.hl_summary.specs.declared.parts.Summary.{Summary}

-- the records have room in the summary
pub record HasRoom (s : Summary) : Type 0 where
  pub blocks : length s.blocks ≤ 240
  pub tables : length s.tables ≤ 80

-- the fields are in their ranges, at the place on the site
pub record HasRanges (g : Layout) (seg block : ℕ) (s : Summary) : Type 0 where
  pub place : IsPlace g seg block
  pub within : block + length s.blocks + 1 ≤ g.k
  pub next : IsNextPlace g seg block (length s.blocks) s.next_seg s.next_block
  pub room : HasRoom s
  pub blocks : All (IsBlockOf g.inodes (table_blocks g)) s.blocks
  pub tables : All (IsChangeOf g.inodes (sum g.volumes) (length g.volumes)) s.tables

-- the summary of a part at the place on the site, whose numbers have room in their fields
pub record IsSummary (g : Layout) (seg block : ℕ) (s : Summary) : Type 0 where
  pub ranges : HasRanges g seg block s
  pub serial_fits : s.serial < 2 ^ 64
  pub seg_fits : s.next_seg < 2 ^ 32
  pub block_fits : s.next_block < 2 ^ 32
  pub blocks_fit : AllByRecursion IsBlockRecord s.blocks
  pub tables_fit : AllByRecursion IsTableRecord s.tables

-- the summary of this heading that has these records
abbrev pub with_records : Heading → List BlockRecord → List TableRecord → Summary
with_records h blocks tables = record {
  serial = h.serial;
  next_seg = h.next_seg;
  next_block = h.next_block;
  ends = h.ends;
  blocks = blocks;
  tables = tables;
}

-- its numbers have room in their fields
pub record HasFitting (s : Summary) : Type 0 where
  pub serial : s.serial < 2 ^ 64
  pub seg : s.next_seg < 2 ^ 32
  pub block : s.next_block < 2 ^ 32
  pub blocks : AllByRecursion IsBlockRecord s.blocks
  pub tables : AllByRecursion IsTableRecord s.tables

-- the bytes `HLPART01`
abbrev pub magic : List ℕ
magic = 72 ∷ 76 ∷ 80 ∷ 65 ∷ 82 ∷ 84 ∷ 48 ∷ 49 ∷ []

-- the number that says whether a part ends a unit, and what a number says
abbrev pub ends_code : Bool → ℕ
ends_code ends = if ends then 1 else 0

abbrev pub ends_of : ℕ → Bool
ends_of code = code == 1

-- the fields before the block records, before the table records, and all
abbrev pub summary_head : Summary → List ℕ
summary_head s = ((((((magic ++ le64 s.serial) ++ le32 s.next_seg) ++ le32 s.next_block) ++ le32 (ends_code s.ends)) ++ le32 (length s.blocks)) ++ le32 (length s.tables)) ++ zeros 4

abbrev pub summary_middle : Summary → List ℕ
summary_middle s = (summary_head s ++ block_records_bytes s.blocks) ++ zeros (1960 - (40 + 8 * length s.blocks))

unfoldable pub summary_fields : Summary → List ℕ
summary_fields s = summary_middle s ++ table_records_bytes s.tables

-- the one spelling of a summary over the blocks behind it, and these blocks
abbrev pub part_bytes : Summary → List ℕ → List ℕ
part_bytes s behind = page_over (summary_fields s) behind

-- the bytes begin with the part that the summary spells over the blocks behind it
abbrev pub IsSpelled : Summary → List ℕ → Type 0
IsSpelled s part = part_of part 0 (1 + length s.blocks) ≡ part_bytes s (part_of part 1 (length s.blocks))

-- the bytes from the place to the segment's end begin with the part that the summary spells over
-- the blocks behind it, and it has the serial
pub record Spells (g : Layout) (seg block serial : ℕ) (part : List ℕ) (s : Summary) : Type 0 where
  pub value : IsSummary g seg block s
  pub serial_is : s.serial ≡ serial
  pub bytes : IsSpelled s part

-- whatever is behind the part, it checks at each place where the summary's fields are in their ranges
abbrev pub Checks : Summary → List ℕ → Type 0
Checks s part = (g : Layout) (seg block : ℕ) (rest : List ℕ) → HasRanges g seg block s → Spells g seg block s.serial (part ++ rest) s

-- the candidate: what stands at the fields' places; of each kind of records at most as many as
-- have room
unfoldable pub summary_in : List ℕ → Summary
summary_in bytes = record {
  serial = u64_at 8 bytes;
  next_seg = u32_at 16 bytes;
  next_block = u32_at 20 bytes;
  ends = ends_of (u32_at 24 bytes);
  blocks = block_records_at 40 (min (u32_at 28 bytes) 240) bytes;
  tables = table_records_at 1960 (min (u32_at 32 bytes) 80) bytes;
}
