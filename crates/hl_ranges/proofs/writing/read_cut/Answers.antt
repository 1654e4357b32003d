use Rattle.std.proofs.Common.{◌%◌, ◌<◌, inl, inr, arith}
use Rattle.hl_ranges.proofs.CutBlocks.{cuts_edge, cuts_none}
use Rattle.hl_ranges.proofs.writing.read_cut.Goals as goal
use Rattle.hl_ranges.proofs.writing.read_cut.Goals.{then-before-size-via-then-before-size, then-before-size-via-else-before-size+then-size-eq0}

pub returns-then-before-size-clause-cut : goal.returns-then-before-size-clause-cut
returns-then-before-size-clause-cut g c = cuts_none {M = g.row.M.Denot} g.M.Machine.history c.args.store.now c.args.ino c.args.before c.args.size c.args.edge.now (elim c.then-before-size.branch [
  | then-before-size-via-then-before-size w ↦ inl w.if-before-size.true
  | then-before-size-via-else-before-size+then-size-eq0 w ↦ inr w.if-size-eq0.true
])

pub returns-clause-cut : goal.returns-clause-cut
returns-clause-cut g c =
    let short : c.args.size < c.args.before = omega arith in
    let within : 0 < c.args.size % 4096 = omega arith in
    cuts_edge {M = g.row.M.Denot} g.M.Machine.history c.args.store.now c.args.ino c.args.before c.args.size c.read_edge.new.out c.fill.new.self c.in_ok-is_own.is_own short within c.read_edge.ensures.size (c.fill.ensures.after (λ y e. e)) c.in_ok-is_own.ensures.block
