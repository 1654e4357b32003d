use Rattle.std.proofs.Common.{◌≡◌, ◌+◌, ◌-◌, ◌^◌, min, ◌++◌, ◌∷◌, [], ℕ, true, List, length, length-append, drop, ap, subst, sym, ◌∙◌, refl, arith}
use Rattle.hl_media.specs.Moments.{Ends}
use Rattle.hl_image.specs.Places.{IsLogPlace}
use Rattle.hl_image.specs.declared.place.LogPlace.{LogPlace}
use Rattle.hl_log.specs.declared.piece.Piece.{Piece}
use Rattle.hl_log.specs.declared.position.Position.{Position}
use Rattle.hl_log.specs.Batches.{CanStand, brought_of}
use Rattle.hl_log.specs.Cut.{place_behind}
use Rattle.hl_log.specs.Units.{HasWritten, moved}
use Rattle.hl_log.proofs.Cutting.{Reached, reached_first, none_reached, turn_place, turn_cleans, turn_more, turn_last, place_behind-append}
use Rattle.hl_log.proofs.Units.{IsMidway, unit_begins, midway_begins, unit_goes_on, midway_goes_on, unit_ends}
use Rattle.hl_log.proofs.Batching.{can_stand, some_left, none_left}
use Rattle.hl_log.proofs.Silence.{silent_then}
use Rattle.hl_log.proofs.batch.write_parts.Goals as goal

pub returns-in_err-settle-clause-crash : goal.returns-in_err-settle-clause-crash
returns-in_err-settle-clause-crash g c = unit_begins c.args.geometry.now c.args.log c.args.clean.now (brought_of c.args.batch.now) _ _ c.settle.ensures.crash

pub parts-init : goal.parts-init
parts-init g c =
    let u = brought_of c.args.batch.now in
    let G = c.args.geometry.now in
    record {
      place = c.requires.place;
      cleans = c.requires.clean;
      used = omega arith;
      silent = c.in_ok-settle.ensures.silent;
      runs = unit_begins G c.args.log c.args.clean.now u _ _ c.in_ok-settle.ensures.crash;
      so_far = subst (λ (n : ℕ). (done : List Piece) × Reached G c.args.log.head c.args.clean.now (length u.records) (length u.changes) done c.args.log.head c.args.clean.now n (length u.changes)
          × Ends (g.M.Machine.history c.args.machine.now) (g.M.Machine.history c.settle.new.machine) (IsMidway G c.args.log c.args.clean.now u (moved c.args.log c.args.log.head c.args.log.serial) c.args.clean.now n (length u.changes) done)
          × (place_behind c.args.log.head done ≡ c.args.log.head) × (c.args.log.serial ≡ min (c.args.log.serial + length done) (2 ^ 64 - 1)))
          (sym c.len.ensures.records)
          ([], reached_first G c.args.log.head c.args.clean.now (length u.records) (length u.changes), midway_begins G c.args.log c.args.clean.now u _ _ c.in_ok-settle.ensures.cleared, refl, omega arith);
      size = refl;
      blocks_same = c.in_ok-settle.ensures.blocks;
      faults_same = c.in_ok-settle.ensures.faults.kept;
      write_faults_same = c.in_ok-settle.ensures.write_faults.kept;
      say_faults_same = c.in_ok-settle.ensures.say_faults;
    }

pub unreachable-requires : goal.unreachable-requires
unreachable-requires g c =
    let u = brought_of c.args.batch.now in
    none_reached c.args.geometry.now c.args.log.head c.args.clean.now (length u.records) (length u.changes) c.parts.invariant.so_far.0 c.parts.left.at (drop c.parts.left.used c.args.clean.now) c.parts.left.blocks c.parts.left.tables
    c.parts.invariant.so_far.1 (λ p more takes. c.in_default.ensures p more takes) c.requires.enough

pub returns-in_err-write_piece-clause-crash : goal.returns-in_err-write_piece-clause-crash
returns-in_err-write_piece-clause-crash g c =
    let u = brought_of c.args.batch.now in
    let l = c.in-Some.ensures in
    let adds = rw c.moved-at.ensures at c.write_piece.ensures.crash in
    unit_goes_on c.args.geometry.now c.args.log c.args.clean.now u c.parts.left.at c.parts.serial (drop c.parts.left.used c.args.clean.now) c.parts.left.blocks c.parts.left.tables c.parts.invariant.so_far.0 c.parts.invariant.so_far.1
    c.in-Some.piece (drop c.in-Some.behind.used c.args.clean.now) l.takes c.requires.batch.both c.is_done-last.result
    (λ e. none_left c.parts.left.blocks c.parts.left.tables c.in-Some.piece.blocks c.in-Some.piece.tables c.in-Some.behind.blocks c.in-Some.behind.tables c.is_done-last.result c.is_done-last.ensures l.blocks_left l.tables_left e)
    _ _ _ c.parts.invariant.runs c.parts.invariant.so_far.2 adds

pub returns-then-last-clause-crash : goal.returns-then-last-clause-crash
returns-then-last-clause-crash g c =
    let u = brought_of c.args.batch.now in
    let l = c.in-Some.ensures in
    let adds = rw c.moved-at.ensures at c.in_ok-write_piece.ensures.crash in
    unit_goes_on c.args.geometry.now c.args.log c.args.clean.now u c.parts.left.at c.parts.serial (drop c.parts.left.used c.args.clean.now) c.parts.left.blocks c.parts.left.tables c.parts.invariant.so_far.0 c.parts.invariant.so_far.1
    c.in-Some.piece (drop c.in-Some.behind.used c.args.clean.now) l.takes c.requires.batch.both c.is_done-last.result
    (λ e. none_left c.parts.left.blocks c.parts.left.tables c.in-Some.piece.blocks c.in-Some.piece.tables c.in-Some.behind.blocks c.in-Some.behind.tables c.is_done-last.result c.is_done-last.ensures l.blocks_left l.tables_left e)
    _ _ _ c.parts.invariant.runs c.parts.invariant.so_far.2 adds

pub returns-then-last-clause-written : goal.returns-then-last-clause-written
returns-then-last-clause-written g c =
    let u = brought_of c.args.batch.now in
    let G = c.args.geometry.now in
    let l = c.in-Some.ensures in
    let adds = rw c.moved-at.ensures at c.in_ok-write_piece.ensures.crash in
    let added = rw c.moved-at.ensures at c.in_ok-write_piece.ensures.added in
    let ends = unit_ends G c.args.log c.args.clean.now u c.parts.left.at c.parts.serial (drop c.parts.left.used c.args.clean.now) c.parts.left.blocks c.parts.left.tables c.parts.invariant.so_far.0 c.parts.invariant.so_far.1
    c.in-Some.piece (drop c.in-Some.behind.used c.args.clean.now) l.takes c.requires.batch.both c.is_done-last.result
    (λ e. none_left c.parts.left.blocks c.parts.left.tables c.in-Some.piece.blocks c.in-Some.piece.tables c.in-Some.behind.blocks c.in-Some.behind.tables c.is_done-last.result c.is_done-last.ensures l.blocks_left l.tables_left e)
    c.saturating_add-serial.result (λ lt. omega (arith, c.saturating_add-serial.ensures)) c.parts.invariant.place c.requires.enough
    _ _ _ adds c.parts.invariant.so_far.2 added c.if-last.true in
    let there : moved c.args.log c.in-Some.piece.next c.saturating_add-serial.result ≡ c.moved.result = ap (λ (x : LogPlace). moved c.args.log x c.saturating_add-serial.result) (sym l.at_is) ∙ sym c.moved.ensures in
    subst (λ (x : Position). Ends (g.M.Machine.history c.args.machine.now) (g.M.Machine.history c.write_piece.new.machine) (HasWritten G c.args.log c.args.clean.now u x (drop c.in-Some.behind.used c.args.clean.now))) there ends

pub parts-preserved : goal.parts-preserved
parts-preserved g c =
    let u = brought_of c.args.batch.now in
    let G = c.args.geometry.now in
    let l = c.in-Some.ensures in
    let adds = rw c.moved-at.ensures at c.in_ok-write_piece.ensures.crash in
    let added = rw c.moved-at.ensures at c.in_ok-write_piece.ensures.added in
    let inv = c.parts.invariant in
    let some = some_left c.in-Some.behind.blocks c.in-Some.behind.tables c.is_done-last.result c.is_done-last.ensures c.if-last.false in
    let no_more = λ (e : c.is_done-last.result ≡ true). none_left c.parts.left.blocks c.parts.left.tables c.in-Some.piece.blocks c.in-Some.piece.tables c.in-Some.behind.blocks c.in-Some.behind.tables c.is_done-last.result c.is_done-last.ensures l.blocks_left l.tables_left e in
    let midway = midway_goes_on G c.args.log c.args.clean.now u c.parts.left.at c.parts.serial (drop c.parts.left.used c.args.clean.now) c.parts.left.blocks c.parts.left.tables inv.so_far.0 inv.so_far.1
    c.in-Some.piece (drop c.in-Some.behind.used c.args.clean.now) l.takes c.requires.batch.both c.is_done-last.result no_more
    c.saturating_add-serial.result (λ lt. omega (arith, c.saturating_add-serial.ensures)) inv.place c.requires.enough
    _ _ _ adds inv.so_far.2 added c.if-last.false (omega (arith, some, l.blocks_left, l.tables_left)) c.in-Some.behind.blocks c.in-Some.behind.tables l.blocks_left l.tables_left in
    record {
      place = turn_place G c.args.log.head c.args.clean.now (length u.records) (length u.changes) c.parts.left c.in-Some.behind c.in-Some.piece l inv.place inv.cleans inv.so_far.0 inv.so_far.1;
      cleans = turn_cleans G c.args.log.head c.args.clean.now (length u.records) (length u.changes) c.parts.left c.in-Some.behind c.in-Some.piece l inv.place inv.cleans inv.so_far.0 inv.so_far.1;
      used = l.used_high;
      silent = silent_then _ _ _ inv.silent c.in_ok-write_piece.ensures.silent;
      runs = unit_goes_on G c.args.log c.args.clean.now u c.parts.left.at c.parts.serial (drop c.parts.left.used c.args.clean.now) c.parts.left.blocks c.parts.left.tables inv.so_far.0 inv.so_far.1
          c.in-Some.piece (drop c.in-Some.behind.used c.args.clean.now) l.takes c.requires.batch.both c.is_done-last.result no_more
          _ _ _ inv.runs inv.so_far.2 adds;
      so_far = (
        inv.so_far.0 ++ c.in-Some.piece ∷ [],
        turn_more G c.args.log.head c.args.clean.now (length u.records) (length u.changes) c.parts.left c.in-Some.behind c.in-Some.piece l inv.place inv.cleans inv.so_far.0 inv.so_far.1 some,
        subst (λ (x : LogPlace). Ends (g.M.Machine.history c.args.machine.now) (g.M.Machine.history c.write_piece.new.machine)
            (IsMidway G c.args.log c.args.clean.now u (moved c.args.log x c.saturating_add-serial.result) (drop c.in-Some.behind.used c.args.clean.now) c.in-Some.behind.blocks c.in-Some.behind.tables (inv.so_far.0 ++ c.in-Some.piece ∷ [])))
            (sym l.at_is) midway,
        place_behind-append c.args.log.head inv.so_far.0 c.in-Some.piece ∙ sym l.at_is,
        omega (arith, inv.so_far.4, c.saturating_add-serial.ensures, length-append inv.so_far.0 (c.in-Some.piece ∷ [])),
      );
      size = c.write_piece.auto.buffer ∙ inv.size;
      blocks_same = c.in_ok-write_piece.ensures.blocks ∙ inv.blocks_same;
      faults_same = c.in_ok-write_piece.ensures.faults.kept ∙ inv.faults_same;
      write_faults_same = c.in_ok-write_piece.ensures.write_faults.kept ∙ inv.write_faults_same;
      say_faults_same = c.in_ok-write_piece.ensures.say_faults ∙ inv.say_faults_same;
    }

pub returns-in_err-write_piece-clause-silent : goal.returns-in_err-write_piece-clause-silent
returns-in_err-write_piece-clause-silent g c = silent_then _ _ _ c.parts.invariant.silent c.write_piece.ensures.silent

pub returns-then-last-clause-silent : goal.returns-then-last-clause-silent
returns-then-last-clause-silent g c = silent_then _ _ _ c.parts.invariant.silent c.in_ok-write_piece.ensures.silent

pub returns-then-last-clause-goes_on : goal.returns-then-last-clause-goes_on
returns-then-last-clause-goes_on g c =
    let u = brought_of c.args.batch.now in
    let l = c.in-Some.ensures in
    let inv = c.parts.invariant in
    let done = c.is_done-last.ensures.0 c.if-last.true in
    record {
      pieces = inv.so_far.0 ++ c.in-Some.piece ∷ [];
      are_cut = turn_last c.args.geometry.now c.args.log.head c.args.clean.now (length u.records) (length u.changes) c.parts.left c.in-Some.behind c.in-Some.piece l inv.place inv.cleans inv.so_far.0 inv.so_far.1 done.0 done.1;
      head_is = ap (λ (x : Position). x.head) c.moved.ensures ∙ l.at_is ∙ sym (place_behind-append c.args.log.head inv.so_far.0 c.in-Some.piece);
      serial_is = ap (λ (x : Position). x.serial) c.moved.ensures ∙ omega (arith, inv.so_far.4, c.saturating_add-serial.ensures, length-append inv.so_far.0 (c.in-Some.piece ∷ []));
    }

pub write_piece-requires-clause-stands : goal.write_piece-requires-clause-stands
write_piece-requires-clause-stands g c =
    let G = c.args.geometry.now in
    let u = brought_of c.args.batch.now in
    let inv = c.parts.invariant in
    let r = inv.so_far.1 in
    let here = can_stand G c.parts.left c.in-Some.behind c.args.clean.now u c.in-Some.piece c.in-Some.ensures inv.place inv.cleans (omega (arith, r.blocks_are)) (omega (arith, r.tables_are)) in
    subst (λ (x : LogPlace). CanStand G x c.parts.left u c.in-Some.piece) (sym (ap (λ (x : Position). x.head) c.moved-at.ensures)) here

pub returns-then-last-clause-place : goal.returns-then-last-clause-place
returns-then-last-clause-place g c =
    let G = c.args.geometry.now in
    let u = brought_of c.args.batch.now in
    let inv = c.parts.invariant in
    let there = turn_place G c.args.log.head c.args.clean.now (length u.records) (length u.changes) c.parts.left c.in-Some.behind c.in-Some.piece c.in-Some.ensures inv.place inv.cleans inv.so_far.0 inv.so_far.1 in
    subst (IsLogPlace G) (sym (ap (λ (x : Position). x.head) c.moved.ensures)) there
