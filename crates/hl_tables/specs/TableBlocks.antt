-- The blocks of the tables.
use Rattle.std.specs.Prelude.{◌≡◌, ℕ, ◌*◌, List, ◌++◌, length}
use Rattle.std.specs.Int.{div_ceil}
use Rattle.hl_bytes.specs.Pages.{padded}
use Rattle.hl_bytes.specs.Buffers.{block_of}
use Rattle.hl_bytes.specs.Runs.{run_bytes, numbers32}
use Rattle.hl_tables.specs.Values.{TableValues, SameShape}
use Rattle.hl_tables.specs.Entries.{flag_bytes, slot_bytes}

-- bytes, filled up with zeros to whole blocks
unfoldable pub in_blocks : List ℕ → List ℕ
in_blocks bytes = padded (4096 * div_ceil (length bytes) 4096) bytes

-- the blocks of the inode map, of the states and of the slots
abbrev pub inode_blocks : TableValues → ℕ
inode_blocks t = div_ceil (4 * length t.inodes) 4096

abbrev pub used_blocks : TableValues → ℕ
used_blocks t = div_ceil (4 * length t.used) 4096

abbrev pub slot_blocks : TableValues → ℕ
slot_blocks t = div_ceil (16 * length t.slots.slots) 4096

-- the four tables as bytes, each in whole blocks
abbrev pub inode_part : TableValues → List ℕ
inode_part t = in_blocks (numbers32 t.inodes)

abbrev pub used_part : TableValues → List ℕ
used_part t = in_blocks (run_bytes flag_bytes t.used)

abbrev pub slot_part : TableValues → List ℕ
slot_part t = in_blocks (run_bytes slot_bytes t.slots.slots)

abbrev pub full_part : TableValues → List ℕ
full_part t = in_blocks (run_bytes flag_bytes t.slots.full)

-- the inode map, the states of the log segments, the slots and the full volumes, one after the other
unfoldable pub tables_bytes : TableValues → List ℕ
tables_bytes t = ((inode_part t ++ used_part t) ++ slot_part t) ++ full_part t

-- table block i
unfoldable pub table_block : TableValues → ℕ → List ℕ
table_block t i = block_of (tables_bytes t) i

-- a block that some tables of the site have as their block i
pub record IsTableBlock (t : TableValues) (i : ℕ) (bytes : List ℕ) : Type 0 where
  pub values : TableValues
  pub shape : SameShape t values
  pub block : table_block values i ≡ bytes
