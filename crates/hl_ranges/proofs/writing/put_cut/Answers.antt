use Rattle.std.proofs.Common.{◌+◌, ◌*◌, ◌/◌, ◌%◌, ◌<◌, ◌≤◌, Bool, if◌then◌else◌, Some, sym, subst, arith}
use Rattle.hl_store.specs.Changes.{Always, ChangesNode}
use Rattle.hl_ranges.specs.Files.{file_shape}
use Rattle.hl_ranges.specs.Writing.{patched}
use Rattle.hl_ranges.proofs.PutSteps.{in_blocks, put_first, put_more, shape_has_block, shape_kind, shape_there}
use Rattle.hl_ranges.proofs.writing.put_cut.Goals as goal

pub set_node-requires-clause-prepared : goal.set_node-requires-clause-prepared
set_node-requires-clause-prepared g c = shape_there {M = g.row.M.Denot} c.args.store.now c.args.ino (file_shape c.requires.drafted.0) c.requires.drafted.1

pub set_node-requires-clause-kind : goal.set_node-requires-clause-kind
set_node-requires-clause-kind g c = shape_kind {M = g.row.M.Denot} c.args.store.now c.args.ino (file_shape c.requires.drafted.0) c.requires.drafted.1

pub put-requires-clause-block : goal.put-requires-clause-block
put-requires-clause-block g c =
    let within : 0 < c.args.size % 4096 = c.requires.within c.if-is_cut.true in
    let low : 4096 * (c.args.size / 4096) < c.args.size = omega arith in
    let all : c.args.size ≤ c.args.size = omega arith in
    shape_has_block {M = g.row.M.Denot} c.set_node.new.self c.args.ino (file_shape c.args.size) c.set_node.ensures.shape.own (c.args.size / 4096) (in_blocks c.args.size c.args.size (c.args.size / 4096) low all)

pub returns-then-is_cut : goal.returns-then-is_cut
returns-then-is_cut g c =
    let within : 0 < c.args.size % 4096 = c.requires.within c.if-is_cut.true in
    let low : 4096 * (c.args.size / 4096) < c.args.size = omega arith in
    let all : c.args.size ≤ c.args.size = omega arith in
    let same : c.args.size / 4096 ≤ c.args.size / 4096 = omega arith in
    let put = put_more {M = g.row.M.Denot} c.args.store.now c.set_node.new.self c.put.new.self c.args.ino (file_shape c.args.size) c.args.now (c.args.size / 4096) (c.args.size / 4096) (λ j. c.args.edge.now)
    c.requires.number
    (put_first {M = g.row.M.Denot} c.args.store.now c.set_node.new.self c.args.ino (file_shape c.args.size) c.args.now (c.args.size / 4096) (λ j. c.args.edge.now) c.set_node.ensures.shape c.set_node.ensures.uses c.set_node.ensures.used)
    c.put.ensures.puts c.put.ensures.room same (in_blocks c.args.size c.args.size (c.args.size / 4096) low all) in
    record {
      made = subst (λ (b : Bool). ChangesNode {M = g.row.M.Denot} c.args.store.now c.put.new.self c.args.ino Always (λ was. Some (patched (file_shape c.args.size) c.args.now (c.args.size / 4096) (if b then c.args.size / 4096 + 1 else c.args.size / 4096) (λ j. c.args.edge.now) was))) (sym c.if-is_cut.true) put.made;
      uses = put.uses;
    }

pub returns-else-is_cut : goal.returns-else-is_cut
returns-else-is_cut g c =
    let put = put_first {M = g.row.M.Denot} c.args.store.now c.set_node.new.self c.args.ino (file_shape c.args.size) c.args.now (c.args.size / 4096) (λ j. c.args.edge.now) c.set_node.ensures.shape c.set_node.ensures.uses c.set_node.ensures.used in
    record {
      made = subst (λ (b : Bool). ChangesNode {M = g.row.M.Denot} c.args.store.now c.set_node.new.self c.args.ino Always (λ was. Some (patched (file_shape c.args.size) c.args.now (c.args.size / 4096) (if b then c.args.size / 4096 + 1 else c.args.size / 4096) (λ j. c.args.edge.now) was))) (sym c.if-is_cut.false) put.made;
      uses = put.uses;
    }
