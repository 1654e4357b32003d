use Rattle.std.proofs.Common.{◌≡◌, ◌*◌, ◌/◌, ◌<◌, ◌≤◌, length, ◌∙◌, arith}
use Rattle.hl_placed.specs.Blocks.{padded_block}
use Rattle.hl_ranges.specs.Directories.{directory_shape}
use Rattle.hl_ranges.proofs.PutSteps.{in_blocks, number_beside, put_first, put_more, shape_has_block, shape_kind, shape_there}
use Rattle.hl_ranges.proofs.DirectoryPuts.{all_blocks, directory_put, enough}
use Rattle.hl_ranges.proofs.directories.put_directory.Goals as goal

pub set_node-requires-clause-prepared : goal.set_node-requires-clause-prepared
set_node-requires-clause-prepared g c = shape_there {M = g.row.M.Denot} c.args.store.now c.args.ino (directory_shape c.requires.drafted.0) c.requires.drafted.1

pub set_node-requires-clause-kind : goal.set_node-requires-clause-kind
set_node-requires-clause-kind g c = shape_kind {M = g.row.M.Denot} c.args.store.now c.args.ino (directory_shape c.requires.drafted.0) c.requires.drafted.1

pub each-init : goal.each-init
each-init g c =
    put_first {M = g.row.M.Denot} c.args.store.now c.set_node.new.self c.args.ino (directory_shape (length c.args.bytes.now)) 0 (c.args.from / 4096) (padded_block c.args.bytes.now)
    c.set_node.ensures.shape c.set_node.ensures.uses c.set_node.ensures.used

pub put_padded-requires-clause-number : goal.put_padded-requires-clause-number
put_padded-requires-clause-number g c = number_beside {M = g.row.M.Denot} c.args.store.now c.each.store c.args.ino c.each.invariant.made.beside c.requires.number

pub put_padded-requires-clause-block : goal.put_padded-requires-clause-block
put_padded-requires-clause-block g c =
    let low : 4096 * c.each.i < length c.args.bytes.now = omega arith in
    let all : length c.args.bytes.now ≤ length c.args.bytes.now = omega arith in
    shape_has_block {M = g.row.M.Denot} c.each.store c.args.ino (directory_shape (length c.args.bytes.now)) c.each.invariant.drafted c.each.i (in_blocks (length c.args.bytes.now) (length c.args.bytes.now) c.each.i low all)

pub put_padded-requires-clause-room : goal.put_padded-requires-clause-room
put_padded-requires-clause-room g c =
    let room = c.each.invariant.room in
    let few = enough c.args.from (length c.args.bytes.now) c.div_ceil-end.result c.args.store.now.overlay.room c.div_ceil-end.ensures c.requires.room in
    omega arith

pub each-preserved : goal.each-preserved
each-preserved g c =
    let low : 4096 * c.each.i < length c.args.bytes.now = omega arith in
    let all : length c.args.bytes.now ≤ length c.args.bytes.now = omega arith in
    put_more {M = g.row.M.Denot} c.args.store.now c.each.store c.put_padded.new.store c.args.ino (directory_shape (length c.args.bytes.now)) 0 (c.args.from / 4096) c.each.i (padded_block c.args.bytes.now)
    c.requires.number c.each.invariant c.put_padded.ensures.puts c.put_padded.ensures.room c.each.auto.i (in_blocks (length c.args.bytes.now) (length c.args.bytes.now) c.each.i low all)

pub returns : goal.returns
returns g c =
    let end : c.each.i ≡ c.div_ceil-end.result = omega arith in
    record { puts = directory_put {M = g.row.M.Denot} c.args.store.now c.each.store c.args.ino c.args.from c.each.i c.args.bytes.now c.requires.within (end ∙ all_blocks (length c.args.bytes.now) c.div_ceil-end.result c.div_ceil-end.ensures) c.each.invariant }
