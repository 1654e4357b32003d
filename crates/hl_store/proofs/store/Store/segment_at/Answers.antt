use Rattle.std.proofs.Common.{◌≡◌, ◌⊎◌, ℕ, inl, inr, None, Some, sym, ◌∙◌, ap, refl}
use Rattle.hl_tseg.specs.declared.slot.Slot.{Slot}
use Rattle.hl_tseg.specs.declared.slot.Slot.TheVariants.{Home, Staged}
use Rattle.hl_tseg.specs.Slots.{serial_of}
use Rattle.hl_store.specs.Values.{layout}
use Rattle.hl_store.proofs.SegmentLemmas.{place_is, slot_there, holds, lies_in, not_nothing, same_segment}
use Rattle.hl_store.proofs.store.Store.segment_at.Goals as goal

told : (held : Slot) (s : ℕ) → ((line : ℕ) × (held ≡ Staged line s)) ⊎ (held ≡ Home s) → serial_of held ≡ Some s
told held s (inl w) = ap serial_of w.1
told held s (inr e) = ap serial_of e

no_serial : {A : Type 0} {s : A} → None ≡ Some s → ⊥
no_serial e = cc

pub unreachable-requires : goal.unreachable-requires
unreachable-requires g c =
    let h = c.requires in let v = c.args.self.now in
    c.in_default.not-Tertiary h.lies.volume h.lies.slot h.position (sym (place_is (layout v) c.geometry-geometry.result.now v.tables.slots v.tables.slots c.args.addr h.serial h.position h.lies (c.geometry-geometry.ensures.value ∙ ap layout c.self.view_is) refl c.class.result c.class.ensures.only))

pub slot-requires : goal.slot-requires
slot-requires g c =
    let h = c.requires in let v = c.args.self.now in let p = c.in-Tertiary in
    slot_there (layout v) c.geometry-geometry.result.now v.tables.slots c.slots.result.now c.args.addr h.serial h.position h.lies (c.geometry-geometry.ensures.value ∙ ap layout c.self.view_is) (c.slots.ensures ∙ ap (λ x. x.tables.slots) c.self.view_is) c.class.result c.class.ensures.only
    p.volume p.slot p.block p.is c.tseg_of-tseg.result c.tseg_of-tseg.ensures.value

pub unreachable-requires-in-Free : goal.unreachable-requires-in-Free
unreachable-requires-in-Free g c =
    let h = c.requires in let v = c.args.self.now in let p = c.in-Tertiary in
    let held = holds (layout v) c.geometry-geometry.result.now v.tables.slots c.slots.result.now c.args.addr h.serial h.position h.lies (c.geometry-geometry.ensures.value ∙ ap layout c.self.view_is) (c.slots.ensures ∙ ap (λ x. x.tables.slots) c.self.view_is) c.class.result c.class.ensures.only
    p.volume p.slot p.block p.is c.tseg_of-tseg.result c.tseg_of-tseg.ensures.value c.slot.result c.slot.ensures in
    elim c.in-Free.is [ inl e ↦ no_serial (sym (ap serial_of e) ∙ held) | inr e ↦ no_serial (sym (ap serial_of e) ∙ held) ]

pub returns-in-Staged : goal.returns-in-Staged
returns-in-Staged g c =
    let h = c.requires in let v = c.args.self.now in let p = c.in-Tertiary in
    let layout_is = c.geometry-geometry.ensures.value ∙ ap layout c.self.view_is in
    let slots_is = c.slots.ensures ∙ ap (λ x. x.tables.slots) c.self.view_is in
    let serial_is = told c.slot.result c.in-Staged.serial c.in-Staged.is in
    record {
      lies = lies_in (layout v) c.geometry-geometry.result.now v.tables.slots c.slots.result.now c.args.addr h.serial h.position h.lies layout_is slots_is c.class.result c.class.ensures.only
          p.volume p.slot p.block p.is c.tseg_of-tseg.result c.tseg_of-tseg.ensures.value c.slot.result c.slot.ensures c.in-Staged.serial serial_is;
      only = λ serial position lies. same_segment (layout v) c.geometry-geometry.result.now v.tables.slots c.slots.result.now c.args.addr serial position lies layout_is slots_is c.class.result c.class.ensures.only
          p.volume p.slot p.block p.is c.tseg_of-tseg.result c.tseg_of-tseg.ensures.value c.slot.result c.slot.ensures c.in-Staged.serial serial_is;
      there = not_nothing c.geometry-geometry.result.now c.args.addr c.class.result c.class.ensures.only p.volume p.slot p.block p.is;
    }

pub returns-in-Staged-2 : goal.returns-in-Staged-2
returns-in-Staged-2 g c =
    let h = c.requires in let v = c.args.self.now in let p = c.in-Tertiary in
    let layout_is = c.geometry-geometry.ensures.value ∙ ap layout c.self.view_is in
    let slots_is = c.slots.ensures ∙ ap (λ x. x.tables.slots) c.self.view_is in
    let serial_is = told c.slot.result c.in-Staged.serial c.in-Staged.is in
    record {
      lies = lies_in (layout v) c.geometry-geometry.result.now v.tables.slots c.slots.result.now c.args.addr h.serial h.position h.lies layout_is slots_is c.class.result c.class.ensures.only
          p.volume p.slot p.block p.is c.tseg_of-tseg.result c.tseg_of-tseg.ensures.value c.slot.result c.slot.ensures c.in-Staged.serial serial_is;
      only = λ serial position lies. same_segment (layout v) c.geometry-geometry.result.now v.tables.slots c.slots.result.now c.args.addr serial position lies layout_is slots_is c.class.result c.class.ensures.only
          p.volume p.slot p.block p.is c.tseg_of-tseg.result c.tseg_of-tseg.ensures.value c.slot.result c.slot.ensures c.in-Staged.serial serial_is;
      there = not_nothing c.geometry-geometry.result.now c.args.addr c.class.result c.class.ensures.only p.volume p.slot p.block p.is;
    }
