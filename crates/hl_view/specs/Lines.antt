-- A tertiary segment that is read where it lies.
use Rattle.std.specs.Prelude.{◌≡◌, ℕ, ◌+◌, ◌-◌, ◌*◌, ◌/◌, ◌≤◌, min, List, ◌++◌, length, take, drop, Option, option_map}
use Rattle.hl_bytes.specs.Fields.{u32_at, u64_at, zeros}
use Rattle.hl_bytes.specs.Pages.{page_over}
use Rattle.hl_bytes.specs.Records.{block_records_at}
use Rattle.hl_bytes.specs.declared.records.BlockRecord.{BlockRecord}
use Rattle.hl_tseg.specs.Segments.{SegmentHead, SpellsSegment, segment_magic}

-- the bytes of a segment, and what its block 0 says
pub record LineSeen : Type 0 where
  pub bytes : List ℕ
  pub head : SegmentHead

-- the candidate: what stands at the fields' places
unfoldable pub head_in : List ℕ → SegmentHead
head_in bytes = record { serial = u64_at 8 bytes; records = block_records_at 24 (u32_at 16 bytes) bytes }

abbrev pub line_seen : List ℕ → LineSeen
line_seen bytes = record { bytes = bytes; head = head_in bytes }

-- the bytes have a block for each record, and block 0 has room for the records
pub record IsLineSeen (bytes : List ℕ) : Type 0 where
  pub few : u32_at 16 bytes ≤ 500
  pub blocks : 4096 * (1 + u32_at 16 bytes) ≤ length bytes

-- the whole of a buffer is the segment with this head and this serial
pub record IsSegment (bytes : List ℕ) (serial : ℕ) (head : SegmentHead) : Type 0 where
  pub spelled : SpellsSegment (length bytes / 4096) bytes head
  pub serial_is : head.serial ≡ serial

-- what is tested of the bytes: that block 0 is its fields, the blocks past the data are zero, and the digest is right
pub record IsTested (bytes : List ℕ) (serial : ℕ) : Type 0 where
  pub some : 1 ≤ u32_at 16 bytes
  pub most : u32_at 16 bytes ≤ min (length bytes / 4096 - 1) 500
  pub magic : take 8 bytes ≡ segment_magic
  pub serial_is : u64_at 8 bytes ≡ serial
  pub gap : take 24 bytes ≡ take 20 bytes ++ zeros 4
  pub past : take (length bytes) bytes ≡ take (4096 * (1 + u32_at 16 bytes)) bytes ++ zeros (length bytes - 4096 * (1 + u32_at 16 bytes))
  pub sealed : bytes ≡ page_over (take (24 + 8 * u32_at 16 bytes) bytes) (drop 4096 bytes)

-- the head that was found, if any
abbrev pub head_of : Option LineSeen → Option SegmentHead
head_of view = option_map (λ v. v.head) view

-- the head of a segment that is sealed
abbrev pub head_with : ℕ → List BlockRecord → SegmentHead
head_with serial records = record { serial = serial; records = records }

-- so many blocks of a segment of k blocks hold data, and those past them are zero
pub record MayBeSealed (bytes : List ℕ) (records : List BlockRecord) : Type 0 where
  pub some : 1 ≤ length records
  pub most : length records ≤ min (length bytes / 4096 - 1) 500
  pub past : drop (4096 * (1 + length records)) bytes ≡ zeros (length bytes - 4096 * (1 + length records))
