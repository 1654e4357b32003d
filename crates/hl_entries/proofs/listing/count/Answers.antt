use Rattle.std.proofs.Common.{arith}
use Rattle.hl_entries.proofs.Search.{none_counted, one_counted, all_counted}
use Rattle.hl_entries.proofs.listing.count.Goals as goal

pub entries-init : goal.entries-init
entries-init c = record { within = omega arith; fewer = omega arith; counted = λ es spells. none_counted c.args.bytes.now es spells }

pub entries-preserved : goal.entries-preserved
entries-preserved c = record {
  within = c.in-Some.ensures.within;
  fewer = omega (arith, c.in-Some.ensures.end);
  counted = λ es spells. (
      let r = c.entries.invariant.counted es spells in
      one_counted c.args.bytes.now es spells c.entries.at c.in-Some.end c.entries.count r.0 r.1 c.in-Some.ensures.end c.in-Some.ensures.within
      );
}

pub returns : goal.returns
returns c = λ es spells.
    let r = c.entries.invariant.counted es spells in
    all_counted c.args.bytes.now es spells c.entries.at c.entries.count r.0 r.1 c.in_default.ensures.cut
