use Rattle.std.proofs.Common.{◌≡◌, ⊎_elim, ℕ, ◌<◌, List, length, refl, sym, ◌∙◌, subst, arith}
use Rattle.std.specs.List.{slice_index_or}
use Rattle.std.proofs.lemmas.List.{get_or_default}
use Rattle.hl_image.specs.declared.chain.ChainPart.{ChainPart}
use Rattle.hl_found.specs.Segments.{IsPartBehind}
use Rattle.hl_found.proofs.LiveFound.{last_or_before}
use Rattle.hl_found.proofs.segments.are_behind.Goals as goal

item_is : (chain : List ChainPart) (i : ℕ) (x d : ChainPart) → i < length chain → x ≡ slice_index_or chain i x → x ≡ slice_index_or chain i d
item_is chain i x d lt is = is ∙ get_or_default chain i x d lt

pub returns-then-not-is_behind : goal.returns-then-not-is_behind
returns-then-not-is_behind c = (
  λ e. absurd (cc),
  λ are. c.if-not-is_behind.ensures.1 (subst (IsPartBehind c.args.geometry.now c.args.head) (sym c.index-chain-i.is) (are c.parts.i c.index-chain-i.result c.parts-test.true)),
)

pub parts-preserved : goal.parts-preserved
parts-preserved c = λ i d lt. ⊎_elim (λ low. c.parts.invariant i d low)
    (λ same. subst (λ (k : ℕ). IsPartBehind c.args.geometry.now c.args.head (slice_index_or c.args.chain.now k d)) (sym same)
    (subst (IsPartBehind c.args.geometry.now c.args.head) (item_is c.args.chain.now c.parts.i c.index-chain-i.result d c.parts-test.true c.index-chain-i.is) (c.if-not-is_behind.ensures.0 refl)))
    (last_or_before i c.parts.i lt)

pub returns : goal.returns
returns c = (λ yes i d lt. c.parts.invariant i d (omega (arith, c.parts-test.false)), λ are. refl)
