use Rattle.std.proofs.Common.{◌≡◌, ◌+◌, ◌*◌, ◌/◌, ◌<◌, ◌≤◌, ℕ, length, Some, subst, arith}
use Rattle.hl_store.specs.Changes.{Always, ChangesNode}
use Rattle.hl_ranges.specs.Files.{file_shape}
use Rattle.hl_ranges.specs.Writing.{new_block, patched}
use Rattle.hl_ranges.proofs.PutSteps.{in_blocks, number_beside, put_first, put_more, shape_has_block, shape_kind, shape_there}
use Rattle.hl_ranges.proofs.writing.put_written.Goals as goal

pub set_node-requires-clause-prepared : goal.set_node-requires-clause-prepared
set_node-requires-clause-prepared g c = shape_there {M = g.row.M.Denot} c.args.store.now c.args.ino (file_shape c.requires.drafted.0) c.requires.drafted.1

pub set_node-requires-clause-kind : goal.set_node-requires-clause-kind
set_node-requires-clause-kind g c = shape_kind {M = g.row.M.Denot} c.args.store.now c.args.ino (file_shape c.requires.drafted.0) c.requires.drafted.1

pub touched-init : goal.touched-init
touched-init g c =
    put_first {M = g.row.M.Denot} c.args.store.now c.set_node.new.self c.args.ino (file_shape c.args.size) c.args.now (c.args.at / 4096) (new_block c.args.at c.args.bytes.now c.args.front.now c.args.back.now)
    c.set_node.ensures.shape c.set_node.ensures.uses c.set_node.ensures.used

pub put_one-requires-clause-number : goal.put_one-requires-clause-number
put_one-requires-clause-number g c = number_beside {M = g.row.M.Denot} c.args.store.now c.touched.store c.args.ino c.touched.invariant.made.beside c.requires.number

pub put_one-requires-clause-block : goal.put_one-requires-clause-block
put_one-requires-clause-block g c =
    let low : 4096 * c.touched.i < c.args.at + length c.args.bytes.now = omega arith in
    shape_has_block {M = g.row.M.Denot} c.touched.store c.args.ino (file_shape c.args.size) c.touched.invariant.drafted c.touched.i (in_blocks c.args.size (c.args.at + length c.args.bytes.now) c.touched.i low c.requires.within)

pub put_one-requires-clause-room : goal.put_one-requires-clause-room
put_one-requires-clause-room g c = let room = c.touched.invariant.room in omega arith

pub touched-preserved : goal.touched-preserved
touched-preserved g c =
    let low : 4096 * c.touched.i < c.args.at + length c.args.bytes.now = omega arith in
    let first : c.args.at / 4096 ≤ c.touched.i = omega arith in
    put_more {M = g.row.M.Denot} c.args.store.now c.touched.store c.put_one.new.store c.args.ino (file_shape c.args.size) c.args.now (c.args.at / 4096) c.touched.i (new_block c.args.at c.args.bytes.now c.args.front.now c.args.back.now)
    c.requires.number c.touched.invariant c.put_one.ensures.puts c.put_one.ensures.room first (in_blocks c.args.size (c.args.at + length c.args.bytes.now) c.touched.i low c.requires.within)

pub returns-clause-made : goal.returns-clause-made
returns-clause-made g c =
    let end : c.touched.i ≡ (c.args.at + length c.args.bytes.now + 4095) / 4096 = omega arith in
    subst (λ (e : ℕ). ChangesNode {M = g.row.M.Denot} c.args.store.now c.touched.store c.args.ino Always (λ was. Some (patched (file_shape c.args.size) c.args.now (c.args.at / 4096) e (new_block c.args.at c.args.bytes.now c.args.front.now c.args.back.now) was))) end c.touched.invariant.made

pub returns-clause-uses : goal.returns-clause-uses
returns-clause-uses g c = c.touched.invariant.uses
