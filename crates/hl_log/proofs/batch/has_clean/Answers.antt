use Rattle.std.proofs.Common.{◌+◌, ◌<◌, ◌++◌, ◌∷◌, [], drop, refl, arith}
use Rattle.hl_log.proofs.Cutting.{reached_first, none_reached, turn_place, turn_cleans, turn_more, turn_last, turn_smaller}
use Rattle.hl_log.proofs.batch.has_clean.Goals as goal
use Rattle.hl_log.proofs.batch.has_clean.Goals.{else-behind-eq0-via-then-behind-eq0+else-behind-eq0-2, else-behind-eq0-via-else-behind-eq0}

pub cut-init : goal.cut-init
cut-init c = record {
  place = c.requires.place;
  cleans = c.requires.clean;
  used = omega arith;
  reached = ([], reached_first c.args.geometry.now c.args.head c.args.clean.now c.args.blocks c.args.tables);
}

pub returns-in-None : goal.returns-in-None
returns-in-None c = (
  λ no. cc,
  λ has. absurd (none_reached c.args.geometry.now c.args.head c.args.clean.now c.args.blocks c.args.tables c.cut.invariant.reached.0 c.cut.left.at (drop c.cut.left.used c.args.clean.now) c.cut.left.blocks c.cut.left.tables c.cut.invariant.reached.1 c.in-None.ensures has),
)

pub returns-then-behind-eq0-2 : goal.returns-then-behind-eq0-2
returns-then-behind-eq0-2 c = (
  λ yes. (
    c.cut.invariant.reached.0 ++ c.in-Some.field-0-0 ∷ [],
    drop c.in-Some.behind.used c.args.clean.now,
    turn_last c.args.geometry.now c.args.head c.args.clean.now c.args.blocks c.args.tables c.cut.left c.in-Some.behind c.in-Some.field-0-0 c.in-Some.ensures c.cut.invariant.place c.cut.invariant.cleans
        c.cut.invariant.reached.0 c.cut.invariant.reached.1 c.if-behind-eq0.true c.if-behind-eq0-2.true,
  ),
  λ has. refl,
)

pub cut-preserved : goal.cut-preserved
cut-preserved c =
    let some : 0 < c.in-Some.behind.blocks + c.in-Some.behind.tables = elim c.else-behind-eq0.branch [
      | else-behind-eq0-via-then-behind-eq0+else-behind-eq0-2 w ↦ omega (arith, w.if-behind-eq0-2.false)
      | else-behind-eq0-via-else-behind-eq0 w ↦ omega (arith, w.if-behind-eq0.false)
    ] in
    let g = c.args.geometry.now in
    let r = c.cut.invariant.reached in
    record {
      place = turn_place g c.args.head c.args.clean.now c.args.blocks c.args.tables c.cut.left c.in-Some.behind c.in-Some.field-0-0 c.in-Some.ensures c.cut.invariant.place c.cut.invariant.cleans r.0 r.1;
      cleans = turn_cleans g c.args.head c.args.clean.now c.args.blocks c.args.tables c.cut.left c.in-Some.behind c.in-Some.field-0-0 c.in-Some.ensures c.cut.invariant.place c.cut.invariant.cleans r.0 r.1;
      used = c.in-Some.ensures.used_high;
      reached = (
        r.0 ++ c.in-Some.field-0-0 ∷ [],
        turn_more g c.args.head c.args.clean.now c.args.blocks c.args.tables c.cut.left c.in-Some.behind c.in-Some.field-0-0 c.in-Some.ensures c.cut.invariant.place c.cut.invariant.cleans r.0 r.1 some,
      );
    }

pub cut-smaller : goal.cut-smaller
cut-smaller c =
    let some : 0 < c.in-Some.behind.blocks + c.in-Some.behind.tables = elim c.else-behind-eq0.branch [
      | else-behind-eq0-via-then-behind-eq0+else-behind-eq0-2 w ↦ omega (arith, w.if-behind-eq0-2.false)
      | else-behind-eq0-via-else-behind-eq0 w ↦ omega (arith, w.if-behind-eq0.false)
    ] in
    let s = turn_smaller c.args.geometry.now c.args.head c.args.clean.now c.args.blocks c.args.tables c.cut.left c.in-Some.behind c.in-Some.field-0-0 c.in-Some.ensures c.cut.invariant.place c.cut.invariant.cleans c.cut.invariant.reached.0 c.cut.invariant.reached.1 some in
    omega arith
