use Rattle.std.proofs.Common.{◌≡◌, ◌+◌, ◌-◌, ◌∙◌, ℕ, Bool, List, length, ap, arith}
use Rattle.hl_bytes.specs.Buffers.{block_of}
use Rattle.hl_bytes.specs.Runs.{run_bytes, numbers32}
use Rattle.hl_tseg.specs.declared.slot.Slot.{Slot}
use Rattle.hl_tables.specs.Values.{TableValues}
use Rattle.hl_tables.specs.Entries.{flag_bytes, slot_bytes}
use Rattle.hl_tables.specs.TableBlocks.{in_blocks}
use Rattle.hl_tables.proofs.BlockPlaces.{last_block, inode_place, used_place, slot_place, full_place}
use Rattle.hl_tables.proofs.tables.Tables.write_block.Goals as goal

pub write_flags-requires-else-i-full-clause-exists : goal.write_flags-requires-else-i-full-clause-exists
write_flags-requires-else-i-full-clause-exists c =
    let s = c.slot_blocks.ensures.sizes in
    let f = c.full.ensures.limits in
    let last = last_block c.args.self.now c.args.i s c.requires.exists in
    let some : length c.full.result.now ≡ length c.self.inside.slots.volumes = ap length c.full.ensures.value ∙ f.each_volume in
    omega (arith, last, some, f.volume_count.0, c.inode_blocks-used.ensures.value, c.used_blocks.ensures.value, c.slot_blocks.ensures.value)

pub returns-then-i-used-clause-block : goal.returns-then-i-used-clause-block
returns-then-i-used-clause-block c =
    let same : c.deref.result.now ≡ c.args.self.now.inodes = c.deref.ensures.value ∙ ap (λ (t : TableValues). t.inodes) c.self.view_is in
    c.write_numbers.ensures ∙ ap (λ (l : List ℕ). block_of (in_blocks (numbers32 l)) c.args.i) same ∙ inode_place c.args.self.now c.args.i (omega (arith, c.inode_blocks-used.ensures.value))

pub returns-then-i-slots-clause-block : goal.returns-then-i-slots-clause-block
returns-then-i-slots-clause-block c =
    let same : c.deref-then-i-slots.result.now ≡ c.args.self.now.used = c.deref-then-i-slots.ensures.value ∙ ap (λ (t : TableValues). t.used) c.self.view_is in
    let j = c.args.i - c.inode_blocks-used.result in
    c.write_flags.ensures ∙ ap (λ (l : List Bool). block_of (in_blocks (run_bytes flag_bytes l)) j) same
    ∙ used_place c.args.self.now c.args.i j (omega (arith, c.inode_blocks-used.ensures.value)) (omega (arith, c.inode_blocks-used.ensures.value, c.used_blocks.ensures.value))

pub returns-then-i-full-clause-block : goal.returns-then-i-full-clause-block
returns-then-i-full-clause-block c =
    let same : c.items.result.now ≡ c.args.self.now.slots.slots = c.items.ensures.value ∙ ap (λ (t : TableValues). t.slots.slots) c.self.view_is in
    let j = c.args.i - (c.inode_blocks-used.result + c.used_blocks.result) in
    c.write_slots.ensures ∙ ap (λ (l : List Slot). block_of (in_blocks (run_bytes slot_bytes l)) j) same
    ∙ slot_place c.args.self.now c.args.i j (omega (arith, c.inode_blocks-used.ensures.value, c.used_blocks.ensures.value))
    (omega (arith, c.inode_blocks-used.ensures.value, c.used_blocks.ensures.value, c.slot_blocks.ensures.value))

pub returns-else-i-full-clause-block : goal.returns-else-i-full-clause-block
returns-else-i-full-clause-block c =
    let same : c.full.result.now ≡ c.args.self.now.slots.full = c.full.ensures.value ∙ ap (λ (t : TableValues). t.slots.full) c.self.view_is in
    let j = c.args.i - (c.inode_blocks-used.result + c.used_blocks.result + c.slot_blocks.result) in
    c.write_flags-else-i-full.ensures ∙ ap (λ (l : List Bool). block_of (in_blocks (run_bytes flag_bytes l)) j) same
    ∙ full_place c.args.self.now c.args.i j (omega (arith, c.inode_blocks-used.ensures.value, c.used_blocks.ensures.value, c.slot_blocks.ensures.value))
