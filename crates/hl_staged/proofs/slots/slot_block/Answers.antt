use Rattle.std.proofs.Common.{◌+◌, ◌*◌, ◌/◌, List, ℕ, get_or, length, sym, ◌∙◌, ap, arith}
use Rattle.std.specs.Int.{div_ceil}
use Rattle.hl_addr.specs.Layout.{Layout}
use Rattle.hl_staged.proofs.SlotsOff.{slot_table, slot_table_low}
use Rattle.hl_staged.proofs.slots.slot_block.Goals as goal

pub bounds-items-inode_blocks : goal.bounds-items-inode_blocks
bounds-items-inode_blocks c =
    let g = c.args.geometry.now in
    let inodes = c.div_ceil-inode_blocks.ensures ∙ ap (λ (l : Layout). div_ceil (4 * l.inodes) 4096) c.geometry.view_is in
    let used = c.div_ceil-used_blocks.ensures ∙ ap (λ (l : Layout). div_ceil (4 * l.log) 4096) c.geometry.view_is in
    let low = slot_table_low g c.args.n (length c.args.rec.now.tables) c.requires.record c.requires.slot in
    let same = ap length c.items.ensures in
    omega (arith, inodes, used, low, same)

pub returns : goal.returns
returns c = λ t are.
    let g = c.args.geometry.now in
    let i = c.div_ceil-inode_blocks.result + c.div_ceil-used_blocks.result + c.args.n / 256 in
    let inodes = c.div_ceil-inode_blocks.ensures ∙ ap (λ (l : Layout). div_ceil (4 * l.inodes) 4096) c.geometry.view_is in
    let used = c.div_ceil-used_blocks.ensures ∙ ap (λ (l : Layout). div_ceil (4 * l.log) 4096) c.geometry.view_is in
    let low = slot_table_low g c.args.n (length c.args.rec.now.tables) c.requires.record c.requires.slot in
    slot_table g t are c.args.rec.now c.args.n i (get_or c.items.result.now i 0) (omega (arith, inodes, used)) (omega (arith, inodes, used, low)) (sym (ap (λ (l : List ℕ). get_or l i 0) c.items.ensures))
