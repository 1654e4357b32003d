-- The records of a summary as bytes.
use Rattle.std.specs.Prelude.{ℕ, ◌+◌, ◌<◌, ◌^◌, List, ◌++◌}
use Rattle.hl_bytes.specs.Fields.{le32, le64, u32_at, u64_at, zeros}
use Rattle.hl_bytes.specs.Runs.{run_bytes, run_at}
use Rattle.hl_bytes.specs.declared.records.BlockRecord.{BlockRecord}
use Rattle.hl_bytes.specs.declared.records.TableRecord.{TableRecord}

-- a block record whose numbers have room in their fields
pub record IsBlockRecord (r : BlockRecord) : Type 0 where
  pub ino : r.ino < 2 ^ 32
  pub index : r.index < 2 ^ 32

-- a table record whose numbers have room in their fields
pub record IsTableRecord (r : TableRecord) : Type 0 where
  pub of_kind : r.kind < 2 ^ 32
  pub a : r.a < 2 ^ 32
  pub b : r.b < 2 ^ 32
  pub serial : r.serial < 2 ^ 64

-- the eight bytes of a block record
unfoldable pub block_record_bytes : BlockRecord → List ℕ
block_record_bytes r = le32 r.ino ++ le32 r.index

-- the 24 bytes of a table record
unfoldable pub table_record_bytes : TableRecord → List ℕ
table_record_bytes r = (((le32 r.kind ++ le32 r.a) ++ le32 r.b) ++ zeros 4) ++ le64 r.serial

-- the block record whose fields stand at a place
unfoldable pub block_record_at : ℕ → List ℕ → BlockRecord
block_record_at at bytes = record { ino = u32_at at bytes; index = u32_at (at + 4) bytes }

-- the table record whose fields stand at a place
unfoldable pub table_record_at : ℕ → List ℕ → TableRecord
table_record_at at bytes = record { kind = u32_at at bytes; a = u32_at (at + 4) bytes; b = u32_at (at + 8) bytes; serial = u64_at (at + 16) bytes }

-- the bytes of block records, and the n that stand from a place on
abbrev pub block_records_bytes : List BlockRecord → List ℕ
block_records_bytes rs = run_bytes block_record_bytes rs

abbrev pub block_records_at : ℕ → ℕ → List ℕ → List BlockRecord
block_records_at at n bytes = run_at block_record_at 8 at n bytes

-- the bytes of table records, and the n that stand from a place on
abbrev pub table_records_bytes : List TableRecord → List ℕ
table_records_bytes rs = run_bytes table_record_bytes rs

abbrev pub table_records_at : ℕ → ℕ → List ℕ → List TableRecord
table_records_at at n bytes = run_at table_record_at 24 at n bytes
