-- What a unit brings.
use Rattle.std.specs.Prelude.{ℕ, List, map, length, sum, All}
use Rattle.std.specs.List.{range_with_len}
use Rattle.hl_addr.specs.Layout.{Layout, table_blocks}
use Rattle.hl_bytes.specs.declared.block.Block.{Block}
use Rattle.hl_bytes.specs.declared.records.BlockRecord.{BlockRecord}
use Rattle.hl_bytes.specs.declared.records.TableRecord.{TableRecord}
use Rattle.hl_summary.specs.Ranges.{IsBlockOf, IsChangeOf}
use Rattle.hl_log.specs.declared.load.Load.{Load}
use Rattle.hl_log.specs.declared.load.Load.TheVariants as load

-- the record of a table block
abbrev pub table_record : ℕ → BlockRecord
table_record i = record { ino = i; index = 4294967293 }

-- the records of the table blocks, in their order
abbrev pub table_records : ℕ → List BlockRecord
table_records n = map table_record (range_with_len 0 n)

-- which blocks they are
abbrev pub records_of : Load → List BlockRecord
records_of (load.Blocks blocks) = map (λ b. b.0) blocks.now
records_of (load.Tables blocks) = table_records (length blocks.now)

-- what table blocks hold
abbrev pub bytes_of_tables : List Block → List (List ℕ)
bytes_of_tables blocks = map (λ b. b.bytes) blocks

-- what they hold, in their order
abbrev pub contents_of : Load → List (List ℕ)
contents_of (load.Blocks blocks) = map (λ b. b.1.bytes) blocks.now
contents_of (load.Tables blocks) = bytes_of_tables blocks.now

-- the records are those of blocks and changes of the site
pub record AreOf (g : Layout) (records : List BlockRecord)
    (changes : List TableRecord) : Type 0 where
  pub blocks : All (IsBlockOf g.inodes (table_blocks g)) records
  pub tables : All (IsChangeOf g.inodes (sum g.volumes) (length g.volumes)) changes
