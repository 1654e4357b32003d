use Rattle.std.proofs.Common.{◌≡◌, ⊎_elim, ℕ, ◌+◌, ◌<◌, ◌≤◌, refl, sym, ap, ◌∙◌, subst, arith, length}
use Rattle.std.specs.Prelude.{count_by}
use Rattle.std.specs.List.{slice_index_or}
use Rattle.hl_addr.specs.Layout.{Layout}
use Rattle.hl_tseg.specs.Slots.{is_staged}
use Rattle.hl_tseg.specs.declared.slot.Slot.TheVariants.{Free}
use Rattle.hl_found.specs.Slots.{AreTwo, IsPossible}
use Rattle.hl_found.proofs.LiveFound.{last_or_before}
use Rattle.hl_found.proofs.SlotsPossible.{slots_are, each_is, possible_here, possible_there}
use Rattle.hl_found.proofs.slots.slots_are_possible.Goals as goal

pub returns-then-not-is_possible : goal.returns-then-not-is_possible
returns-then-not-is_possible c =
    let g = c.args.geometry.now in
    let slots = c.args.slots.now.slots in
    let e : c.geometry.inside.lines ≡ g.lines = omega (arith, ap (λ (x : Layout). x.lines) c.geometry.view_is) in
    let lt : c.ones.i < length slots = omega (arith, ap length c.items-items.ensures.value, c.ones-test.true) in (
      λ no. absurd (cc),
      λ are. c.if-not-is_possible.ensures.1 (possible_there c.geometry.inside.lines g.lines c.args.next c.items-items.result.now slots c.ones.i e c.items-items.ensures.value
          (each_is g c.args.slots.now c.args.next are c.ones.i Free lt)),
    )

pub ones-preserved : goal.ones-preserved
ones-preserved c =
    let slots = c.args.slots.now.slots in
    let lines = c.args.geometry.now.lines in
    let e : c.geometry.inside.lines ≡ lines = omega (arith, ap (λ (x : Layout). x.lines) c.geometry.view_is) in
    let here : c.ones.i < length slots = omega (arith, ap length c.items-items.ensures.value, c.ones-test.true) in
    record {
      each = λ i d lt. ⊎_elim (λ low. c.ones.invariant.each i d low)
          (λ same. subst (λ (k : ℕ). IsPossible lines c.args.next (slice_index_or slots k d)) (sym same)
          (possible_here c.geometry.inside.lines lines c.args.next c.items-items.result.now slots c.ones.i d e c.items-items.ensures.value here (c.if-not-is_possible.ensures.0 refl)))
          (last_or_before i c.ones.i lt);
      apart = λ i j d lt low. ⊎_elim (λ before. c.ones.invariant.apart i j d before low)
          (λ same. subst (λ (k : ℕ). AreTwo (slice_index_or slots k d) (slice_index_or slots j d)) (sym same) (c.others.invariant j d (omega (arith, c.others-test.false, same))))
          (last_or_before i c.ones.i lt);
    }

pub returns : goal.returns
returns c =
    let g = c.args.geometry.now in
    let slots = c.args.slots.now.slots in
    let lines = ap (λ (x : Layout). x.lines) c.geometry.view_is in
    let staged = c.count_staged-staged.ensures ∙ ap (count_by is_staged) c.items-items.ensures.value in
    let few : count_by is_staged slots + 12 ≤ g.lines = omega (arith, staged, lines, c.if-geometry-lt12.false, c.if-geometry-staged.false) in
    let all : length slots ≤ c.ones.i = omega (arith, ap length c.items-items.ensures.value, c.ones-test.false) in (
      λ yes. slots_are g c.args.slots.now c.args.next few
          (λ i d lt. c.ones.invariant.each i d (omega arith))
          (λ i j d lt low. c.ones.invariant.apart i j d (omega arith) low),
      λ are. refl,
    )
