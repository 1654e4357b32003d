use Rattle.std.proofs.Common.{sym, subst}
use Rattle.hl_store.specs.declared.answers.Placed.{Placed}
use Rattle.hl_store.specs.Finding.{FindsPlace}
use Rattle.hl_store.proofs.FoundBlocks.{bytes_there, here_held, hole_past, hole_there, kept_stands, kept_there, moved_stands, moved_there, placed_at, zeros_held}
use Rattle.hl_store.proofs.store.Store.place.Goals as goal
use Rattle.hl_store.proofs.store.Store.place.Goals.{in-Hole, in-Kept, in-Moved, in-Bytes}

pub returns-then-i-ge-BLOCKS_MAX-clause-found : goal.returns-then-i-ge-BLOCKS_MAX-clause-found
returns-then-i-ge-BLOCKS_MAX-clause-found g c = hole_past {M = g.row.M.Denot} g.M.Machine.history c.args.self.now c.seat.new.self c.args.ino 0 c.in-Ok.ensures.ok c.requires.number.high c.args.i c.if-i-ge-BLOCKS_MAX.true

pub returns-clause-found : goal.returns-clause-found
returns-clause-found g c = elim c.match-now.branch [
  | in-Hole w ↦ subst (λ (r : Placed). FindsPlace {M = g.row.M.Denot} g.M.Machine.history g.M.Machine.faults c.args.self.now c.seat.new.self c.args.ino c.args.i r) (sym w.result-is)
      (zeros_held {M = g.row.M.Denot} g.M.Machine.history c.args.self.now c.seat.new.self c.args.ino 0 c.in-Ok.ensures.ok c.requires.number.high c.args.i c.if-i-ge-BLOCKS_MAX.false (hole_there _ _ c.self.view_is c.args.ino c.args.i c.in-Some.now c.in-Some.ensures.now w.in-Hole.is))
  | in-Kept w ↦ subst (λ (r : Placed). FindsPlace {M = g.row.M.Denot} g.M.Machine.history g.M.Machine.faults c.args.self.now c.seat.new.self c.args.ino c.args.i r) (sym w.result-is)
      (placed_at {M = g.row.M.Denot} g.M.Machine.history c.args.self.now c.seat.new.self c.args.ino 0 c.in-Ok.ensures.ok c.requires.number.high g.M.Machine.faults c.in-Ok.ensures.machine.unchanged c.in-Ok.ensures.machine.faults_most _ c.self.view_is c.args.i w.in-Kept.addr
      (kept_stands {M = g.row.M.Denot} g.M.Machine.history c.args.self.now c.seat.new.self c.args.ino 0 c.in-Ok.ensures.ok c.requires.number.high c.args.i w.in-Kept.addr c.if-i-ge-BLOCKS_MAX.false (kept_there _ _ c.self.view_is c.args.ino c.args.i c.in-Some.now c.in-Some.ensures.now w.in-Kept.addr w.in-Kept.is)) w.where_at.result w.where_at.ensures)
  | in-Moved w ↦ subst (λ (r : Placed). FindsPlace {M = g.row.M.Denot} g.M.Machine.history g.M.Machine.faults c.args.self.now c.seat.new.self c.args.ino c.args.i r) (sym w.result-is)
      (placed_at {M = g.row.M.Denot} g.M.Machine.history c.args.self.now c.seat.new.self c.args.ino 0 c.in-Ok.ensures.ok c.requires.number.high g.M.Machine.faults c.in-Ok.ensures.machine.unchanged c.in-Ok.ensures.machine.faults_most _ c.self.view_is c.args.i w.in-Moved.addr
      (moved_stands {M = g.row.M.Denot} g.M.Machine.history c.args.self.now c.seat.new.self c.args.ino 0 c.in-Ok.ensures.ok c.requires.number.high c.args.i w.in-Moved.addr _ _ c.if-i-ge-BLOCKS_MAX.false (moved_there _ _ c.self.view_is c.args.ino c.args.i c.in-Some.now c.in-Some.ensures.now w.in-Moved.addr _ _ w.in-Moved.is)) w.where_at-in-Moved.result w.where_at-in-Moved.ensures)
  | in-Bytes w ↦ subst (λ (r : Placed). FindsPlace {M = g.row.M.Denot} g.M.Machine.history g.M.Machine.faults c.args.self.now c.seat.new.self c.args.ino c.args.i r) (sym w.result-is)
      (here_held {M = g.row.M.Denot} g.M.Machine.history c.args.self.now c.seat.new.self c.args.ino 0 c.in-Ok.ensures.ok c.requires.number.high c.args.i _ c.if-i-ge-BLOCKS_MAX.false (bytes_there _ _ c.self.view_is c.args.ino c.args.i c.in-Some.now c.in-Some.ensures.now _ w.in-Bytes.is))
]
