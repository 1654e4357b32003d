use Rattle.std.proofs.Common.{⊎_elim, ℕ, sym, ◌∙◌, subst, arith}
use Rattle.std.specs.List.{slice_index_or}
use Rattle.std.proofs.lemmas.List.{get_or_default}
use Rattle.hl_found.specs.Segments.{LiesIn}
use Rattle.hl_found.proofs.LiveFound.{last_or_before}
use Rattle.hl_found.proofs.segments.have_part_in.Goals as goal

pub parts-preserved : goal.parts-preserved
parts-preserved c = λ i d lt lies. ⊎_elim (λ low. c.parts.invariant i d low lies)
    (λ same. (let here = subst (λ (k : ℕ). LiesIn c.args.geometry.now c.args.segment (slice_index_or c.args.chain.now k d)) same lies in
    let own = subst (LiesIn c.args.geometry.now c.args.segment) (sym (c.index-chain-i.is ∙ get_or_default c.args.chain.now c.parts.i c.index-chain-i.result d c.parts-test.true)) here in
    let e = c.if-lies_in.ensures.1 own in cc))
    (last_or_before i c.parts.i lt)

pub returns : goal.returns
returns c = (λ e. absurd (cc), λ (i, d, lt, lies). absurd (c.parts.invariant i d (omega (arith, c.parts-test.false)) lies))
