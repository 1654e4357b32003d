use Rattle.std.proofs.Common.{ℕ, ap, ◌∙◌, length, arith, length-take, length-drop}
use Rattle.hl_script.proofs.Cuts.{found_behind, none_behind, held_on}
use Rattle.hl_script.proofs.lines.fill.Goals as goal

pub returns-then-first_place-piece-clause-ready : goal.returns-then-first_place-piece-clause-ready
returns-then-first_place-piece-clause-ready g c =
    let read = c.in_ok-read.ensures.bytes in
    found_behind c.reads.held c.read.new.self c.held-bytes.result.now read.0 c.reads.before c.first_place.result _ read.1
    c.held-bytes.ensures.is c.reads.invariant.before c.reads.invariant.none c.first_place.ensures.place
    (omega (arith, length-take {A = ℕ}, length-drop {A = ℕ}))

pub reads-preserved : goal.reads-preserved
reads-preserved g c =
    let read = c.in_ok-read.ensures.bytes in
    record {
      before = ap length c.held-bytes.ensures.is;
      bounded = c.in_ok-read.ensures.bounded;
      none =
          none_behind c.reads.held c.read.new.self c.held-bytes.result.now read.0 c.reads.before c.first_place.result read.1
          c.held-bytes.ensures.is c.reads.invariant.before c.reads.invariant.none c.first_place.ensures.place
          (omega (arith, length-take {A = ℕ}, length-drop {A = ℕ}));
      same = held_on _ _ _ c.reads.held read.0 c.read.new.self read.1 c.reads.invariant.same read.3;
      quiet = c.in_ok-read.ensures.faults.kept ∙ c.reads.invariant.quiet;
    }
