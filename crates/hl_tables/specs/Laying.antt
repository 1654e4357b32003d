-- A part of the log laid over the tables.
use Rattle.std.specs.Prelude.{◌≡◌, ℕ, ◌+◌, ◌*◌, ◌<◌, ◌≤◌, ◌==◌, if◌then◌else◌, true, List, [], ◌∷◌, length, slice_set}
use Rattle.std.specs.List.{fold}
use Rattle.hl_bytes.specs.declared.records.BlockRecord.{BlockRecord}
use Rattle.hl_bytes.specs.declared.records.TableRecord.{TableRecord}
use Rattle.hl_tseg.specs.declared.slot.Slot.{Slot}
use Rattle.hl_tseg.specs.declared.slot.Slot.TheVariants.{Staged, Home, Spoilt}
use Rattle.hl_tables.specs.Values.{TableValues}

-- the tables with an inode's block at an address
abbrev pub with_inode : TableValues → ℕ → ℕ → TableValues
with_inode t ino address = record t { inodes = slice_set t.inodes ino address }

-- the tables with what a slot holds
abbrev pub with_slot : TableValues → ℕ → Slot → TableValues
with_slot t number slot = record t { slots = record t.slots { slots = slice_set t.slots.slots number slot } }

-- the tables with a full volume
abbrev pub with_full : TableValues → ℕ → TableValues
with_full t volume = record t { slots = record t.slots { full = slice_set t.slots.full volume true } }

-- a block that lies at an address: where it is an inode's own block, the inode lies there now
abbrev pub block_laid : TableValues → ℕ → BlockRecord → TableValues
block_laid t address r = if r.index == 4294967295 then with_inode t r.ino address else t

-- blocks that lie one after the other from an address on
abbrev pub blocks_laid : TableValues → ℕ → List BlockRecord → TableValues
blocks_laid t address [] = t
blocks_laid t address (r ∷ rs) = blocks_laid (block_laid t address r) (address + 1) rs

-- a table record: 1 an inode is freed, 2 a slot is staged, 3 it is home, 4 it is spoilt, 5 a volume is full
abbrev pub changed : TableValues → TableRecord → TableValues
changed t r =
    if r.kind == 1 then with_inode t r.a 4294967295
    else (if r.kind == 2 then with_slot t r.a (Staged r.b r.serial)
    else (if r.kind == 3 then with_slot t r.a (Home r.serial)
    else (if r.kind == 4 then with_slot t r.a Spoilt
    else (if r.kind == 5 then with_full t r.a else t))))

-- the blocks of a part from a block of a log segment on, and then its table records in order
abbrev pub laid : TableValues → ℕ → ℕ → List BlockRecord → List TableRecord → TableValues
laid t seg first blocks changes = fold changed (blocks_laid t (seg * t.k + first) blocks) changes

-- the inode of a block record exists, where the block is its own
abbrev pub HasInode : TableValues → BlockRecord → Type 0
HasInode t r = r.index ≡ 4294967295 → r.ino < length t.inodes

-- what a table record changes exists
pub record HasTarget (t : TableValues) (r : TableRecord) : Type 0 where
  pub inode : r.kind ≡ 1 → r.a < length t.inodes
  pub slot : 2 ≤ r.kind → r.kind ≤ 4 → r.a < length t.slots.slots
  pub volume : r.kind ≡ 5 → r.a < length t.slots.volumes
