-- A checkpoint record as bytes.
use Rattle.std.specs.Prelude.{◌≡◌, ℕ, ◌+◌, ◌-◌, ◌*◌, ◌%◌, ◌^◌, ◌<◌, ◌≤◌, min, List, [], ◌∷◌, ◌++◌, length}
use Rattle.std.specs.List.{AllByRecursion}
use Rattle.hl_addr.specs.Layout.{IsWithinLimits, table_blocks}
use Rattle.hl_bytes.specs.Fields.{le32, le64, u32_at, u64_at, zeros}
use Rattle.hl_bytes.specs.Runs.{numbers32, u32s_at}
use Rattle.hl_bytes.specs.Pages.{page}
use Rattle.hl_super.specs.Labels.{layout_of}
use Rattle.hl_super.specs.declared.label.Label.{Label}
use Rattle.hl_super.specs.declared.record.Record.{Record}

-- the lists have room in the block
pub record HasRoom (v : Record) : Type 0 where
  pub volumes : length v.volumes ≤ 32
  pub tables : length v.tables ≤ 256

-- the fields are in their ranges, in the disk's block 1 for odd numbers and 2 for even ones; the
-- label and the volumes make a site within the limits, whose tables have so many blocks
pub record HasRanges (at : ℕ) (label : Label) (v : Record) : Type 0 where
  pub number : 1 ≤ v.number
  pub parity : 2 - v.number % 2 ≡ at
  pub seg_low : 1 ≤ v.seg
  pub seg_high : v.seg ≤ label.log
  pub block : v.block + 2 ≤ label.k
  pub tseg_serial : 1 ≤ v.tseg_serial
  pub format : v.format ≡ 1
  pub site : IsWithinLimits (layout_of label v.volumes)
  pub tables : length v.tables ≡ table_blocks (layout_of label v.volumes)

-- a record of a label in a block, whose numbers have room in their fields
pub record IsRecord (at : ℕ) (label : Label) (v : Record) : Type 0 where
  pub ranges : HasRanges at label v
  pub number_fits : v.number < 2 ^ 64
  pub serial_fits : v.serial < 2 ^ 64
  pub seg_fits : v.seg < 2 ^ 32
  pub block_fits : v.block < 2 ^ 32
  pub tseg_fits : v.tseg_serial < 2 ^ 64
  pub volumes_fit : AllByRecursion (λ n. n < 2 ^ 32) v.volumes
  pub tables_fit : AllByRecursion (λ n. n < 2 ^ 32) v.tables

-- the bytes `HLRECRD1`
abbrev pub magic : List ℕ
magic = 72 ∷ 76 ∷ 82 ∷ 69 ∷ 67 ∷ 82 ∷ 68 ∷ 49 ∷ []

-- the fields before the volumes, with the volumes, and all
abbrev pub record_head : Record → List ℕ
record_head v = ((((((magic ++ le64 v.number) ++ le64 v.serial) ++ le32 v.seg) ++ le32 v.block) ++ le64 v.tseg_serial) ++ le32 v.format) ++ le32 (length v.volumes)

abbrev pub record_middle : Record → List ℕ
record_middle v = ((record_head v ++ numbers32 v.volumes) ++ zeros (176 - (48 + 4 * length v.volumes))) ++ le32 (length v.tables)

abbrev pub record_fields : Record → List ℕ
record_fields v = record_middle v ++ numbers32 v.tables

-- the one spelling of a record
unfoldable pub record_bytes : Record → List ℕ
record_bytes v = page (record_fields v)

-- the disk's block 1 or 2 is the spelling of a record of a label
pub record Spells (at : ℕ) (label : Label) (block : List ℕ) (v : Record) : Type 0 where
  pub value : IsRecord at label v
  pub bytes : block ≡ record_bytes v

-- the candidate: what stands at the fields' places; of each list at most as many as have room
unfoldable pub record_in : List ℕ → Record
record_in bytes = record {
  number = u64_at 8 bytes;
  serial = u64_at 16 bytes;
  seg = u32_at 24 bytes;
  block = u32_at 28 bytes;
  tseg_serial = u64_at 32 bytes;
  format = u32_at 40 bytes;
  volumes = u32s_at 48 (min (u32_at 44 bytes) 32) bytes;
  tables = u32s_at 180 (min (u32_at 176 bytes) 256) bytes;
}
