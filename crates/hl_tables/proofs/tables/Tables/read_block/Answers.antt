use Rattle.std.proofs.Common.{◌-◌, ◌+◌, ◌∙◌, arith}
use Rattle.hl_tables.proofs.BlockPlaces.{last_block, inode_place, used_place, slot_place, full_place}
use Rattle.hl_tables.proofs.TablesRead.{inode_read, used_read, slot_read, full_read, inode_shape, used_shape, slot_shape, full_shape, inodes_as_many, used_as_many, slots_as_many, grammar_by}
use Rattle.hl_tables.proofs.tables.Tables.read_block.Goals as goal

pub returns-then-i-used-clause-read : goal.returns-then-i-used-clause-read
returns-then-i-used-clause-read c = λ t.
    let old = c.args.self.now in
    let new = c.read_inode_block.new.self in
    let i = c.args.i in
    let bytes = c.args.bytes.now in
    let size = c.requires.size in
    let a = c.inode_blocks-used.ensures.value in
    let b = c.used_blocks.ensures.value in
    let d = c.slot_blocks.ensures.value in
    let last = last_block old i c.slot_blocks.ensures.sizes c.requires.exists in
    inode_read old new i bytes size (omega arith) c.read_inode_block.ensures.only (c.read_inode_block.ensures.read t)

pub returns-then-i-used-clause-grammar : goal.returns-then-i-used-clause-grammar
returns-then-i-used-clause-grammar c =
    let old = c.args.self.now in
    let new = c.read_inode_block.new.self in
    let i = c.args.i in
    let bytes = c.args.bytes.now in
    let size = c.requires.size in
    let a = c.inode_blocks-used.ensures.value in
    let b = c.used_blocks.ensures.value in
    let d = c.slot_blocks.ensures.value in
    let last = last_block old i c.slot_blocks.ensures.sizes c.requires.exists in
    grammar_by old new i bytes c.read_inode_block.result size last (inode_shape old new c.read_inode_block.ensures.only c.read_inode_block.ensures.count)
    (λ t. inode_read old new i bytes size (omega arith) c.read_inode_block.ensures.only (c.read_inode_block.ensures.read t))
    (λ v same is. c.read_inode_block.ensures.grammar v.inodes same.inodes (inode_place v i (omega (arith, inodes_as_many old v same)) ∙ is))

pub returns-then-i-slots-clause-read : goal.returns-then-i-slots-clause-read
returns-then-i-slots-clause-read c = λ t.
    let old = c.args.self.now in
    let new = c.read_used_block.new.self in
    let i = c.args.i in
    let bytes = c.args.bytes.now in
    let size = c.requires.size in
    let a = c.inode_blocks-used.ensures.value in
    let b = c.used_blocks.ensures.value in
    let d = c.slot_blocks.ensures.value in
    let last = last_block old i c.slot_blocks.ensures.sizes c.requires.exists in
    let j = i - c.inode_blocks-used.result in
    used_read old new i j bytes size (omega arith) (omega arith) c.read_used_block.ensures.only (c.read_used_block.ensures.read t)

pub returns-then-i-slots-clause-grammar : goal.returns-then-i-slots-clause-grammar
returns-then-i-slots-clause-grammar c =
    let old = c.args.self.now in
    let new = c.read_used_block.new.self in
    let i = c.args.i in
    let bytes = c.args.bytes.now in
    let size = c.requires.size in
    let a = c.inode_blocks-used.ensures.value in
    let b = c.used_blocks.ensures.value in
    let d = c.slot_blocks.ensures.value in
    let last = last_block old i c.slot_blocks.ensures.sizes c.requires.exists in
    let j = i - c.inode_blocks-used.result in
    grammar_by old new i bytes c.read_used_block.result size last (used_shape old new c.read_used_block.ensures.only c.read_used_block.ensures.count)
    (λ t. used_read old new i j bytes size (omega arith) (omega arith) c.read_used_block.ensures.only (c.read_used_block.ensures.read t))
    (λ v same is. c.read_used_block.ensures.grammar v.used same.used (used_place v i j (omega (arith, inodes_as_many old v same)) (omega (arith, used_as_many old v same)) ∙ is))

pub returns-then-i-full-clause-read : goal.returns-then-i-full-clause-read
returns-then-i-full-clause-read c = λ t.
    let old = c.args.self.now in
    let new = c.read_slot_block.new.self in
    let i = c.args.i in
    let bytes = c.args.bytes.now in
    let size = c.requires.size in
    let a = c.inode_blocks-used.ensures.value in
    let b = c.used_blocks.ensures.value in
    let d = c.slot_blocks.ensures.value in
    let last = last_block old i c.slot_blocks.ensures.sizes c.requires.exists in
    let j = i - (c.inode_blocks-used.result + c.used_blocks.result) in
    slot_read old new i j bytes size (omega arith) (omega arith) c.read_slot_block.ensures.only (c.read_slot_block.ensures.read t)

pub returns-then-i-full-clause-grammar : goal.returns-then-i-full-clause-grammar
returns-then-i-full-clause-grammar c =
    let old = c.args.self.now in
    let new = c.read_slot_block.new.self in
    let i = c.args.i in
    let bytes = c.args.bytes.now in
    let size = c.requires.size in
    let a = c.inode_blocks-used.ensures.value in
    let b = c.used_blocks.ensures.value in
    let d = c.slot_blocks.ensures.value in
    let last = last_block old i c.slot_blocks.ensures.sizes c.requires.exists in
    let j = i - (c.inode_blocks-used.result + c.used_blocks.result) in
    grammar_by old new i bytes c.read_slot_block.result size last (slot_shape old new c.read_slot_block.ensures.only c.read_slot_block.ensures.count)
    (λ t. slot_read old new i j bytes size (omega arith) (omega arith) c.read_slot_block.ensures.only (c.read_slot_block.ensures.read t))
    (λ v same is. c.read_slot_block.ensures.grammar v.slots.slots same.slots (slot_place v i j (omega (arith, inodes_as_many old v same, used_as_many old v same)) (omega (arith, slots_as_many old v same)) ∙ is))

pub returns-else-i-full-clause-read : goal.returns-else-i-full-clause-read
returns-else-i-full-clause-read c = λ t.
    let old = c.args.self.now in
    let new = c.read_full_block.new.self in
    let i = c.args.i in
    let bytes = c.args.bytes.now in
    let size = c.requires.size in
    let a = c.inode_blocks-used.ensures.value in
    let b = c.used_blocks.ensures.value in
    let d = c.slot_blocks.ensures.value in
    let last = last_block old i c.slot_blocks.ensures.sizes c.requires.exists in
    full_read old new i bytes (omega arith) c.read_full_block.ensures.only (c.read_full_block.ensures.read t)

pub returns-else-i-full-clause-grammar : goal.returns-else-i-full-clause-grammar
returns-else-i-full-clause-grammar c =
    let old = c.args.self.now in
    let new = c.read_full_block.new.self in
    let i = c.args.i in
    let bytes = c.args.bytes.now in
    let size = c.requires.size in
    let a = c.inode_blocks-used.ensures.value in
    let b = c.used_blocks.ensures.value in
    let d = c.slot_blocks.ensures.value in
    let last = last_block old i c.slot_blocks.ensures.sizes c.requires.exists in
    grammar_by old new i bytes c.read_full_block.result size last (full_shape old new c.read_full_block.ensures.only c.read_full_block.ensures.count)
    (λ t. full_read old new i bytes (omega arith) c.read_full_block.ensures.only (c.read_full_block.ensures.read t))
    (λ v same is. c.read_full_block.ensures.grammar v.slots.full same.full (full_place v i 0 (omega (arith, inodes_as_many old v same, used_as_many old v same, slots_as_many old v same)) ∙ is))
