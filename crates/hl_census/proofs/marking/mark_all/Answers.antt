use Rattle.std.proofs.Common.{◌<◌, ◌∙◌, ℕ, sym, subst}
use Rattle.hl_census.proofs.Flags.{marked_more}
use Rattle.hl_census.proofs.marking.mark_all.Goals as goal

pub addresses-preserved : goal.addresses-preserved
addresses-preserved c = record {
  count = c.mark.ensures.count ∙ c.addresses.invariant.count;
  each = λ seg lt. marked_more c.args.k c.addresses.i c.args.flags.now.items c.addresses.flags.items c.mark.new.flags.items c.args.addresses.now seg
      (subst (λ (n : ℕ). seg < n) (sym c.addresses.invariant.count) lt) (c.addresses.invariant.each seg lt) c.mark.ensures.set c.mark.ensures.others;
}
