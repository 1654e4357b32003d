use Rattle.hl_store.proofs.ReadRuns.{reads_from, reads_then}
use Rattle.hl_store.proofs.FoundBlocks.{bytes_held, bytes_there, found_at, hole_past, hole_there, kept_stands, kept_there, moved_stands, moved_there, zeros_filled, zeros_held}
use Rattle.hl_store.proofs.store.Store.block.Goals as goal

pub returns-then-i-ge-BLOCKS_MAX-clause-found : goal.returns-then-i-ge-BLOCKS_MAX-clause-found
returns-then-i-ge-BLOCKS_MAX-clause-found g c = (zeros_filled c.args.out.now c.fill.new.self c.requires.size (c.fill.ensures.after (λ y e. e)), hole_past {M = g.row.M.Denot} g.M.Machine.history c.args.self.now c.seat.new.self c.args.ino 0 c.in-Ok.ensures.ok c.requires.number.high c.args.i c.if-i-ge-BLOCKS_MAX.true)

pub returns-in-Hole-clause-found : goal.returns-in-Hole-clause-found
returns-in-Hole-clause-found g c = (zeros_filled c.args.out.now c.fill-in-Hole.new.self c.requires.size (c.fill-in-Hole.ensures.after (λ y e. e)), zeros_held {M = g.row.M.Denot} g.M.Machine.history c.args.self.now c.seat.new.self c.args.ino 0 c.in-Ok.ensures.ok c.requires.number.high c.args.i c.if-i-ge-BLOCKS_MAX.false (hole_there _ _ c.self.view_is c.args.ino c.args.i c.in-Some.now c.in-Some.ensures.now c.in-Hole.is))

pub returns-in-Kept-clause-found : goal.returns-in-Kept-clause-found
returns-in-Kept-clause-found g c = found_at {M = g.row.M.Denot} g.M.Machine.history c.args.self.now c.seat.new.self c.args.ino 0 c.in-Ok.ensures.ok c.requires.number.high g.M.Machine.faults c.in-Ok.ensures.machine.unchanged c.in-Ok.ensures.machine.faults_most _ c.self.view_is c.args.i c.in-Kept.addr
    (kept_stands {M = g.row.M.Denot} g.M.Machine.history c.args.self.now c.seat.new.self c.args.ino 0 c.in-Ok.ensures.ok c.requires.number.high c.args.i c.in-Kept.addr c.if-i-ge-BLOCKS_MAX.false (kept_there _ _ c.self.view_is c.args.ino c.args.i c.in-Some.now c.in-Some.ensures.now c.in-Kept.addr c.in-Kept.is)) c.read_at.new.log c.read_at.new.out c.read_at.result c.read_at.ensures.found

pub returns-in-Kept-clause-machine : goal.returns-in-Kept-clause-machine
returns-in-Kept-clause-machine g c = reads_then c.in-Ok.ensures.machine (reads_from c.self.view_is c.read_at.ensures.machine)

pub returns-in-Moved-clause-found : goal.returns-in-Moved-clause-found
returns-in-Moved-clause-found g c = found_at {M = g.row.M.Denot} g.M.Machine.history c.args.self.now c.seat.new.self c.args.ino 0 c.in-Ok.ensures.ok c.requires.number.high g.M.Machine.faults c.in-Ok.ensures.machine.unchanged c.in-Ok.ensures.machine.faults_most _ c.self.view_is c.args.i c.in-Moved.addr
    (moved_stands {M = g.row.M.Denot} g.M.Machine.history c.args.self.now c.seat.new.self c.args.ino 0 c.in-Ok.ensures.ok c.requires.number.high c.args.i c.in-Moved.addr c.in-Moved.serial c.in-Moved.position c.if-i-ge-BLOCKS_MAX.false (moved_there _ _ c.self.view_is c.args.ino c.args.i c.in-Some.now c.in-Some.ensures.now c.in-Moved.addr c.in-Moved.serial c.in-Moved.position c.in-Moved.is)) c.read_at-in-Moved.new.log c.read_at-in-Moved.new.out c.read_at-in-Moved.result c.read_at-in-Moved.ensures.found

pub returns-in-Moved-clause-machine : goal.returns-in-Moved-clause-machine
returns-in-Moved-clause-machine g c = reads_then c.in-Ok.ensures.machine (reads_from c.self.view_is c.read_at-in-Moved.ensures.machine)

pub returns-in-Bytes-clause-found : goal.returns-in-Bytes-clause-found
returns-in-Bytes-clause-found g c = bytes_held {M = g.row.M.Denot} g.M.Machine.history c.args.self.now c.seat.new.self c.args.ino 0 c.in-Ok.ensures.ok c.requires.number.high c.args.i c.in-Bytes.bytes.now c.copy_from_slice.new.self c.if-i-ge-BLOCKS_MAX.false (bytes_there _ _ c.self.view_is c.args.ino c.args.i c.in-Some.now c.in-Some.ensures.now c.in-Bytes.bytes c.in-Bytes.is) c.copy_from_slice.ensures.after
