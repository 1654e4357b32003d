use Rattle.std.proofs.Common.{◌≡◌, ℕ, List, replicate, sym, ◌∙◌, ap, subst}
use Rattle.std.specs.List.{fold}
use Rattle.std.proofs.lemmas.List.{with_items_is}
use Rattle.hl_addr.specs.Layout.{IsWithinLimits, Layout}
use Rattle.hl_tally.specs.Counting.{added}
use Rattle.hl_census.specs.Living.{AreLive}
use Rattle.hl_census.proofs.LiveNumbers.{live_counted}
use Rattle.hl_census.proofs.numbers.live.Goals as goal

pub returns-clause-live : goal.returns-clause-live
returns-clause-live c = λ image rec parts t in_log named apart.
    let g = c.args.geometry.now in
    let limits : IsWithinLimits g = subst (λ (l : Layout). IsWithinLimits l) c.geometry.view_is c.geometry.invariant in
    let counted : c.add_all.new.live ≡ fold (added g.k) (replicate g.log 0) c.args.named.now =
    c.add_all.ensures
    ∙ ap (λ (l : List ℕ). fold (added c.geometry.inside.k) l c.args.named.now) (c.deref_mut.ensures.value ∙ c.in_ok-live.ensures.items_if_clones_equal (λ y e. e))
    ∙ ap (λ (l : Layout). fold (added l.k) (replicate l.log 0) c.args.named.now) c.geometry.view_is in
    subst (λ (l : List ℕ). AreLive g image rec t l) (sym (with_items_is c.in_ok-live.live c.add_all.new.live (c.add_all.auto.live ∙ c.deref_mut.ensures.len)))
    (live_counted g limits image rec t parts c.args.named.now c.add_all.new.live counted in_log named apart)
