use Rattle.std.proofs.Common.{rules, ◌≡◌, length, take, sym, ◌∙◌, ap, subst, arith}
use Rattle.hl_overlay.specs.MadeUnits.{undone}
use Rattle.hl_overlay.specs.Overlays.{AreNamed, where_in}
use Rattle.hl_overlay.proofs.making.MadeUnit.undone.Goals as goal

pub invariant_of-result : goal.invariant_of-result
invariant_of-result c = record {
  named = subst (λ bs. AreNamed (length c.self.inside.drafts.places) (where_in c.self.inside.drafts) bs) (sym (c.truncate.ensures.items ∙ ap (take c.self.inside.first) c.into_vec-blocks.ensures)) c.self.invariant.named;
  room = record { there = first_of (search rules, omega arith); small = (let e : length c.truncate.new.self.items ≡ length (take c.self.inside.first c.self.inside.unit.blocks) = ap length (c.truncate.ensures.items ∙ ap (take c.self.inside.first) c.into_vec-blocks.ensures) in let few = c.self.invariant.few in first_of (omega arith, grind (arith, e, few))) };
}

pub returns : goal.returns
returns c = ap (λ bs. record { drafts = c.self.inside.drafts; blocks = bs; room = 0 }) (c.truncate.ensures.items ∙ ap (take c.self.inside.first) c.into_vec-blocks.ensures) ∙ ap undone c.self.view_is
