use Rattle.std.proofs.Common.{◌≡◌, length, sym, ◌∙◌, ap, subst, arith}
use Rattle.hl_overlay.specs.Clearing.{HaveOwnNumbers}
use Rattle.hl_overlay.proofs.TrimLemmas.{items_apart, left_apart, numbers_in, numbers_left, trimmed_in}
use Rattle.hl_overlay.proofs.drafts.Drafts.trim.Goals as goal

pub forget-requires : goal.forget-requires
forget-requires c = numbers_in _ c.as_slice-2.result.now c.self.invariant.table c.as_slice-2.ensures.value

pub place_all-requires-clause-within : goal.place_all-requires-clause-within
place_all-requires-clause-within c = numbers_left _ c.as_slice-3.result.now c.forget.new.places.items c.self.invariant.table (c.as_slice-3.ensures.value ∙ c.keep_changed.ensures) c.forget.ensures.count

pub place_all-requires-clause-apart : goal.place_all-requires-clause-apart
place_all-requires-clause-apart c = subst HaveOwnNumbers (sym (c.as_slice-3.ensures.value ∙ c.keep_changed.ensures)) (left_apart c.self.inside.items.items (items_apart _ c.self.invariant.table))

pub invariant_of-self : goal.invariant_of-self
invariant_of-self c = (trimmed_in _ c.args.self.now _ c.self.inside.others c.self.inside.freed c.args.most c.forget.new.places.items c.as_slice-2.result.now c.as_slice-3.result.now c.self.view_is c.self.invariant c.as_slice-2.ensures.value c.as_slice-3.ensures.value c.keep_changed.ensures c.forget.ensures c.place_all.ensures (let many = c.if-as_slice-most.false in let same : length c.as_slice-2.result.now ≡ length c.as_slice.result.now = ap length (c.as_slice-2.ensures.value ∙ sym c.as_slice.ensures.value) in omega arith)).0

pub returns-clause-trims : goal.returns-clause-trims
returns-clause-trims c = (trimmed_in _ c.args.self.now _ c.self.inside.others c.self.inside.freed c.args.most c.forget.new.places.items c.as_slice-2.result.now c.as_slice-3.result.now c.self.view_is c.self.invariant c.as_slice-2.ensures.value c.as_slice-3.ensures.value c.keep_changed.ensures c.forget.ensures c.place_all.ensures (let many = c.if-as_slice-most.false in let same : length c.as_slice-2.result.now ≡ length c.as_slice.result.now = ap length (c.as_slice-2.ensures.value ∙ sym c.as_slice.ensures.value) in omega arith)).1

pub returns-clause-whole : goal.returns-clause-whole
returns-clause-whole c = (trimmed_in _ c.args.self.now _ c.self.inside.others c.self.inside.freed c.args.most c.forget.new.places.items c.as_slice-2.result.now c.as_slice-3.result.now c.self.view_is c.self.invariant c.as_slice-2.ensures.value c.as_slice-3.ensures.value c.keep_changed.ensures c.forget.ensures c.place_all.ensures (let many = c.if-as_slice-most.false in let same : length c.as_slice-2.result.now ≡ length c.as_slice.result.now = ap length (c.as_slice-2.ensures.value ∙ sym c.as_slice.ensures.value) in omega arith)).0.table
