use Rattle.std.proofs.Common.{rules, ◌≡◌, ◌≤◌, length, take, refl, sym, ◌∙◌, ap, subst, arith}
use Rattle.hl_overlay.specs.Making.{AddsAll}
use Rattle.hl_overlay.specs.Overlays.{AreNamed, OverlayValue, where_in}
use Rattle.hl_overlay.proofs.MakingLemmas.{data_first, drafts_in, made_of, made_plan, placed_in, uses_in}
use Rattle.hl_overlay.proofs.overlay.Overlay.make.Goals as goal

pub add_drafts-requires-clause-drafts : goal.add_drafts-requires-clause-drafts
add_drafts-requires-clause-drafts c = drafts_in c.drafts.inside.drafts c.items.result.now c.items.ensures.is c.items.ensures.value

pub add_drafts-requires-clause-placed : goal.add_drafts-requires-clause-placed
add_drafts-requires-clause-placed c k d lt =
    let view : record { drafts = c.drafts.inside.drafts; blocks = c.drafts.inside.blocks.items; room = c.drafts.inside.room } ≡ c.args.self.now = c.drafts.view_is ∙ c.replace.ensures.value in
    let count = made_plan (record { drafts = c.drafts.inside.drafts; blocks = c.drafts.inside.blocks.items; room = c.drafts.inside.room }) c.args.self.now view c.items.result.now (length c.args.plan.now) c.items.ensures.value c.requires.plan in
    placed_in c.drafts.inside.drafts c.drafts.inside.blocks.items c.args.plan.now c.items.result.now c.items.ensures.is c.drafts.invariant.named c.items.ensures.value (omega arith) k d lt

pub add_drafts-requires-clause-uses : goal.add_drafts-requires-clause-uses
add_drafts-requires-clause-uses c k d lt =
    let view : record { drafts = c.drafts.inside.drafts; blocks = c.drafts.inside.blocks.items; room = c.drafts.inside.room } ≡ c.args.self.now = c.drafts.view_is ∙ c.replace.ensures.value in
    let few : length c.drafts.inside.drafts.places ≤ length c.args.used.now = subst (λ (x : OverlayValue). length x.drafts.places ≤ length c.args.used.now) (sym view) c.requires.uses in
    uses_in c.drafts.inside.drafts c.items.result.now (length c.args.used.now) c.items.ensures.is c.items.ensures.value few k d lt

pub invariant_of-result : goal.invariant_of-result
invariant_of-result c =
    let adds : AddsAll c.args.plan.now c.args.used.now c.items.result.now c.drafts.inside.blocks.items c.of.result = subst (λ bs. AddsAll c.args.plan.now c.args.used.now c.items.result.now c.drafts.inside.blocks.items bs) (sym c.of.ensures) c.add_drafts.ensures in
    let first : take c.len-first.result c.of.result ≡ c.drafts.inside.blocks.items = data_first c.args.plan.now c.args.used.now c.items.result.now c.drafts.inside.blocks.items c.of.result c.len-first.result (first_of (search rules, omega arith)) adds in
    record {
      named = subst (λ bs. AreNamed (length c.drafts.inside.drafts.places) (where_in c.drafts.inside.drafts) bs) (sym first) c.drafts.invariant.named;
      few = (let e : length (take c.len-first.result c.of.result) ≡ length c.drafts.inside.blocks.items = ap length first in let small = c.drafts.invariant.room.small in omega arith);
    }

pub returns : goal.returns
returns c =
    let view : record { drafts = c.drafts.inside.drafts; blocks = c.drafts.inside.blocks.items; room = c.drafts.inside.room } ≡ c.args.self.now = c.drafts.view_is ∙ c.replace.ensures.value in
    let adds : AddsAll c.args.plan.now c.args.used.now c.items.result.now c.drafts.inside.blocks.items c.of.result = subst (λ bs. AddsAll c.args.plan.now c.args.used.now c.items.result.now c.drafts.inside.blocks.items bs) (sym c.of.ensures) c.add_drafts.ensures in
    made_of (record { drafts = c.drafts.inside.drafts; blocks = c.drafts.inside.blocks.items; room = c.drafts.inside.room }) c.args.self.now view c.args.plan.now c.args.used.now c.args.changes.items
    (record { drafts = c.drafts.inside.drafts; fresh = take c.len-first.result c.of.result; blocks = c.of.result; tables = c.of-2.result }) c.items.result.now c.len-first.result refl refl (first_of (search rules, omega arith)) c.items.ensures.value adds c.of-2.ensures
