use Rattle.std.proofs.Common.{◌<◌, arith, below_more}
use Rattle.std.specs.Prelude.{slice_index}
use Rattle.hl_image.specs.Places.{InLog, log_end}
use Rattle.hl_hierarchy.proofs.bytes.are_in_log.Goals as goal

pub returns-then-not-is_in_log : goal.returns-then-not-is_in_log
returns-then-not-is_in_log c = record {
  so = λ yes. (let e = yes in cc);
  not = λ _. record {
    index = c.pointers.i;
    low = omega (arith, c.pointers-test.true);
    outside = λ is. (let e = c.is_in_log.ensures.place.1 is in let f = c.if-not-is_in_log.true in cc);
  };
}

pub pointers-preserved : goal.pointers-preserved
pointers-preserved c = record {
  in_log = below_more (λ k. InLog c.args.geometry.now (slice_index c.args.pointers.now k)) c.pointers.i c.pointers.invariant.in_log (c.is_in_log.ensures.place.0 c.if-not-is_in_log.false);
  within = below_more (λ k. slice_index c.args.pointers.now k < log_end c.args.geometry.now) c.pointers.i c.pointers.invariant.within (c.is_in_log.ensures.within c.if-not-is_in_log.false);
}

pub returns : goal.returns
returns c = record {
  so = λ _. record {
    in_log = λ k lt. c.pointers.invariant.in_log k (omega (arith, c.pointers-test.false));
    within = λ k lt. c.pointers.invariant.within k (omega (arith, c.pointers-test.false));
  };
  not = λ no. (let e = no in cc);
}
