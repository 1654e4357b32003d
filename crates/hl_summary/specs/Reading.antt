-- A part that is read where it lies.
use Rattle.std.specs.Prelude.{◌≡◌, ℕ, ◌+◌, ◌-◌, ◌*◌, ◌<◌, ◌≤◌, List, ◌++◌, length, sum, take, drop, All}
use Rattle.hl_addr.specs.Layout.{Layout, table_blocks}
use Rattle.hl_bytes.specs.Fields.{u32_at, u64_at, zeros}
use Rattle.hl_bytes.specs.Pages.{page_over}
use Rattle.hl_summary.specs.Parts.{HasRanges, magic, summary_in}
use Rattle.hl_summary.specs.Ranges.{IsBlockOf, IsChangeOf, IsNextPlace, IsPlace}
use Rattle.hl_summary.specs.declared.parts.Summary.{Summary}

-- the fields of a summary that are in no record have values that are spelled, and what is between
-- them, behind the block records and within each table record is zero
pub record HasFields (bytes : List ℕ) : Type 0 where
  pub begins : take 8 bytes ≡ magic
  pub ends : u32_at 24 bytes ≤ 1
  pub blocks : u32_at 28 bytes ≤ 240
  pub tables : u32_at 32 bytes ≤ 80
  pub gap : u32_at 36 bytes ≡ 0
  pub past : take 1960 bytes ≡ take (40 + 8 * u32_at 28 bytes) bytes ++ zeros (1960 - (40 + 8 * u32_at 28 bytes))
  pub gaps : (i : ℕ) → i < u32_at 32 bytes → u32_at (1972 + 24 * i) bytes ≡ 0

-- a part of n blocks may stand at the place, with the part behind it at the next place
pub record IsPlaced (g : Layout) (seg block n next_seg next_block : ℕ) : Type 0 where
  pub place : IsPlace g seg block
  pub within : block + n + 1 ≤ g.k
  pub next : IsNextPlace g seg block n next_seg next_block

-- each record is in its ranges
pub record HasRecords (g : Layout) (s : Summary) : Type 0 where
  pub blocks : All (IsBlockOf g.inodes (table_blocks g)) s.blocks
  pub tables : All (IsChangeOf g.inodes (sum g.volumes) (length g.volumes)) s.tables

-- the bytes from the front of a part that are its own
abbrev pub own_bytes : List ℕ → List ℕ
own_bytes bytes = take (4096 * (1 + length (summary_in bytes).blocks)) bytes

-- the summary is zero behind its records, and ends with the digest of it and of its blocks
abbrev pub IsSealedPart : List ℕ → Type 0
IsSealedPart bytes = own_bytes bytes ≡ page_over (take (1960 + 24 * length (summary_in bytes).tables) (own_bytes bytes)) (drop 4096 (own_bytes bytes))

-- what is tested of the bytes from a place to the segment's end
pub record IsTestedPart (g : Layout) (seg block serial : ℕ) (bytes : List ℕ) : Type 0 where
  pub place : IsPlace g seg block
  pub fields : HasFields bytes
  pub serial_is : u64_at 8 bytes ≡ serial
  pub ranges : HasRanges g seg block (summary_in bytes)
  pub digest : IsSealedPart bytes
