use Rattle.std.proofs.Common.{◌≡◌, ◌⊎◌, ◌∙◌, ℕ, List, ap, subst, arith}
use Rattle.std.specs.Prelude.{◌↔◌}
use Rattle.hl_addr.specs.Layout.{IsWithinLimits, Layout}
use Rattle.hl_census.specs.Straying.{HaveOneIn, IsSet}
use Rattle.hl_census.proofs.UsedSegments.{used_by}
use Rattle.hl_census.proofs.marking.used_segments.Goals as goal

pub returns-clause-used : goal.returns-clause-used
returns-clause-used c =
    let g = c.args.geometry.now in
    let held = c.in_ok-used.used.items in
    let used = c.mark_all.new.flags.items in
    let limits : IsWithinLimits g = subst (λ (l : Layout). IsWithinLimits l) c.geometry.view_is c.geometry.invariant in
    let k : c.geometry.inside.k ≡ g.k = ap (λ (l : Layout). l.k) c.geometry.view_is in
    used_by g limits c.args.rec.now c.args.tables.now c.args.at c.args.covered.now held used c.in_ok-used.ensures.each
    (λ seg high. subst (λ (xs : List ℕ). IsSet used seg ↔ (IsSet held seg ⊎ HaveOneIn g.k xs seg)) c.items.ensures
    (subst (λ (n : ℕ). IsSet used seg ↔ (IsSet held seg ⊎ HaveOneIn n c.items.result.now seg)) k
    (c.mark_all.ensures.each seg (let count = c.in_ok-used.ensures.count in omega arith))))

pub returns-clause-count : goal.returns-clause-count
returns-clause-count c = c.mark_all.ensures.count ∙ c.in_ok-used.ensures.count
