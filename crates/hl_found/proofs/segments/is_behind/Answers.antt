use Rattle.std.proofs.Common.{◌≡◌, ℕ, ◌+◌, length, refl, sym, ap, subst, arith, below_more}
use Rattle.hl_nodes.specs.Sound.{IsAhead}
use Rattle.hl_found.specs.Segments.{part_block}
use Rattle.hl_found.proofs.segments.is_behind.Goals as goal

pub returns-then-is_ahead : goal.returns-then-is_ahead
returns-then-is_ahead c =
    let first : c.number_of-first.result + c.each.i ≡ part_block c.args.geometry.now c.args.part.now c.each.i = ap (λ (n : ℕ). n + c.each.i) c.number_of-first.ensures.value in (
      λ e. absurd (cc),
      λ behind. absurd (behind c.each.i (omega (arith, c.each-test.true, ap length c.items.ensures)) (subst (IsAhead c.args.geometry.now c.args.head) first (c.if-is_ahead.ensures.0 refl))),
    )

pub each-preserved : goal.each-preserved
each-preserved c =
    let first : c.number_of-first.result + c.each.i ≡ part_block c.args.geometry.now c.args.part.now c.each.i = ap (λ (n : ℕ). n + c.each.i) c.number_of-first.ensures.value in
    below_more (λ i. IsAhead c.args.geometry.now c.args.head (part_block c.args.geometry.now c.args.part.now i) → ⊥) c.each.i c.each.invariant
    (λ ahead. (let e = c.if-is_ahead.ensures.1 (subst (IsAhead c.args.geometry.now c.args.head) (sym first) ahead) in cc))

pub returns : goal.returns
returns c = (λ yes i le. c.each.invariant i (omega (arith, c.each-test.false, ap length c.items.ensures)), λ behind. refl)
