use Rattle.std.proofs.Common.{⊎_elim, ℕ, refl, sym, subst}
use Rattle.std.specs.List.{slice_index_or}
use Rattle.std.proofs.lemmas.List.{get_or_default}
use Rattle.hl_found.specs.Found.{parts_found}
use Rattle.hl_found.specs.Segments.{IsInPlace}
use Rattle.hl_found.proofs.LiveFound.{last_or_before}
use Rattle.hl_found.proofs.segments.lives_are_in_place.Goals as goal

pub returns-then-not-is_in_place : goal.returns-then-not-is_in_place
returns-then-not-is_in_place c = (λ e. absurd (cc), λ all. c.if-not-is_in_place.ensures.1 (all c.each.i _ c.each-test.true))

pub each-preserved : goal.each-preserved
each-preserved c = λ i d lt. ⊎_elim (λ low. c.each.invariant i d low)
    (λ same. subst (λ (k : ℕ). IsInPlace c.args.geometry.now c.args.found.now.rec (parts_found c.args.found.now.chain.items) c.args.found.now.tables (slice_index_or c.args.lives.now k d)) (sym same)
    (subst (IsInPlace c.args.geometry.now c.args.found.now.rec (parts_found c.args.found.now.chain.items) c.args.found.now.tables) (get_or_default c.args.lives.now c.each.i _ d c.each-test.true) (c.if-not-is_in_place.ensures.0 refl)))
    (last_or_before i c.each.i lt)
