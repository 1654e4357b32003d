-- Which table stands at a table block.
use Rattle.std.proofs.Common.{◌≡◌, ℕ, ◌+◌, ◌*◌, ◌<◌, ◌≤◌, ◌++◌, length, sum, sym, ap, ◌∙◌, arith, length-append}
use Rattle.std.specs.Int.{div_ceil}
use Rattle.hl_addr.specs.Layout.{table_blocks_of}
use Rattle.hl_tseg.specs.SlotTable.{IsSlotTable}
use Rattle.hl_bytes.specs.Buffers.{block_of}
use Rattle.hl_bytes.specs.Runs.{run_bytes, numbers32}
use Rattle.hl_bytes.proofs.RunLemmas.{length-run_bytes, length-numbers32}
use Rattle.hl_tables.specs.Values.{TableValues}
use Rattle.hl_tables.specs.Entries.{flag_bytes, slot_bytes}
use Rattle.hl_tables.specs.TableBlocks.{inode_part, used_part, slot_part, full_part, tables_bytes, table_block, inode_blocks, used_blocks, slot_blocks}
use Rattle.hl_tables.proofs.EntryLemmas.{length-flag_bytes, length-slot_bytes}
use Rattle.hl_tables.proofs.EntryBlocks.{length-in_blocks, block_left, block_right}

-- how long they are
pub length-inode_part : (t : TableValues) → length (inode_part t) ≡ 4096 * inode_blocks t
length-inode_part t = length-in_blocks (numbers32 t.inodes) (4 * length t.inodes) (length-numbers32 t.inodes)

pub length-used_part : (t : TableValues) → length (used_part t) ≡ 4096 * used_blocks t
length-used_part t = length-in_blocks (run_bytes flag_bytes t.used) (4 * length t.used) (length-run_bytes flag_bytes 4 length-flag_bytes t.used)

pub length-slot_part : (t : TableValues) → length (slot_part t) ≡ 4096 * slot_blocks t
length-slot_part t = length-in_blocks (run_bytes slot_bytes t.slots.slots) (16 * length t.slots.slots) (length-run_bytes slot_bytes 16 length-slot_bytes t.slots.slots)

pub length-two : (t : TableValues) → length (inode_part t ++ used_part t) ≡ 4096 * (inode_blocks t + used_blocks t)
length-two t = omega (arith, length-append (inode_part t) (used_part t), length-inode_part t, length-used_part t)

pub length-three : (t : TableValues) → length (inode_part t ++ used_part t ++ slot_part t) ≡ 4096 * (inode_blocks t + used_blocks t + slot_blocks t)
length-three t = omega (arith, length-append (inode_part t ++ used_part t) (slot_part t), length-two t, length-slot_part t)

-- a block of each
pub inode_place : (t : TableValues) (i : ℕ) → i < inode_blocks t → block_of (inode_part t) i ≡ table_block t i
unfolding table_block tables_bytes
inode_place t i lt =
    sym (
    block_left (inode_part t ++ used_part t ++ slot_part t) (full_part t) (inode_blocks t + used_blocks t + slot_blocks t) i (length-three t) (omega arith)
    ∙ block_left (inode_part t ++ used_part t) (slot_part t) (inode_blocks t + used_blocks t) i (length-two t) (omega arith)
    ∙ block_left (inode_part t) (used_part t) (inode_blocks t) i (length-inode_part t) lt
    )

pub used_place : (t : TableValues) (i j : ℕ) → i ≡ inode_blocks t + j → j < used_blocks t → block_of (used_part t) j ≡ table_block t i
unfolding table_block tables_bytes
used_place t i j is lt =
    sym (
    block_left (inode_part t ++ used_part t ++ slot_part t) (full_part t) (inode_blocks t + used_blocks t + slot_blocks t) i (length-three t) (omega arith)
    ∙ block_left (inode_part t ++ used_part t) (slot_part t) (inode_blocks t + used_blocks t) i (length-two t) (omega arith)
    ∙ block_right (inode_part t) (used_part t) (inode_blocks t) i j (length-inode_part t) is
    )

pub slot_place : (t : TableValues) (i j : ℕ) → i ≡ inode_blocks t + used_blocks t + j → j < slot_blocks t → block_of (slot_part t) j ≡ table_block t i
unfolding table_block tables_bytes
slot_place t i j is lt =
    sym (
    block_left (inode_part t ++ used_part t ++ slot_part t) (full_part t) (inode_blocks t + used_blocks t + slot_blocks t) i (length-three t) (omega arith)
    ∙ block_right (inode_part t ++ used_part t) (slot_part t) (inode_blocks t + used_blocks t) i j (length-two t) is
    )

pub full_place : (t : TableValues) (i j : ℕ) → i ≡ inode_blocks t + used_blocks t + slot_blocks t + j → block_of (full_part t) j ≡ table_block t i
unfolding table_block tables_bytes
full_place t i j is = sym (block_right (inode_part t ++ used_part t ++ slot_part t) (full_part t) (inode_blocks t + used_blocks t + slot_blocks t) i j (length-three t) is)

-- the last block is that of the volumes
pub last_block : (t : TableValues) (i : ℕ) → IsSlotTable t.slots → i < table_blocks_of (length t.used) (length t.inodes) (sum t.slots.volumes) → i ≤ inode_blocks t + used_blocks t + slot_blocks t
unfolding table_blocks_of
last_block t i ok lt = omega (arith, ap (λ (n : ℕ). div_ceil (16 * n) 4096) ok.each_slot)
