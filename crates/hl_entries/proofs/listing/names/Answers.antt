use Rattle.std.proofs.Common.{arith, List, [], ◌∷◌, ◌++◌, sym, subst, ap, ◌∙◌}
use Rattle.hl_dir.specs.declared.entry.Entry.{Entry}
use Rattle.hl_entries.proofs.Search.{HasListed, none_listed, one_listed, all_listed}
use Rattle.hl_entries.proofs.listing.names.Goals as goal

pub entries-init : goal.entries-init
entries-init c = record {
  within = omega arith;
  listed = λ es spells. subst (λ l. (left : List Entry) × HasListed es 0 l left) (sym c.new-names.ensures.items) (none_listed c.args.bytes.now es spells);
}

pub entries-preserved : goal.entries-preserved
entries-preserved c = record {
  within = c.in-Some.ensures.within;
  listed = λ es spells. (
      let r = c.entries.invariant.listed es spells in
      let pushed = c.in_ok-push.ensures.items ∙ ap (λ n. c.entries.names.items ++ n ∷ []) (c.of-name.ensures ∙ c.in_ok-from_slice.ensures.items) in
      subst (λ l. (left : List Entry) × HasListed es c.in-Some.end l left) (sym pushed)
      (one_listed c.args.bytes.now es spells c.entries.at c.in-Some.end c.entries.names.items r.0 r.1 c.in-Some.ensures.end c.in-Some.ensures.within)
      );
}

pub returns : goal.returns
returns c = λ es spells.
    let r = c.entries.invariant.listed es spells in
    c.of.ensures ∙ all_listed c.args.bytes.now es spells c.entries.at c.entries.names.items r.0 r.1 c.in_default.ensures.cut
