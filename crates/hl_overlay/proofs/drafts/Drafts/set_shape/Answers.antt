use Rattle.std.proofs.Common.{◌≤◌, sym, subst, arith}
use Rattle.hl_overlay.specs.Drafting.{is_freed, with_shape}
use Rattle.hl_overlay.proofs.CountLemmas.{one_most}
use Rattle.hl_overlay.proofs.DraftChanges.{IsReadAt, freed_small, others_small, recounted, refreed, shaped, shaped_counted}
use Rattle.hl_overlay.proofs.drafts.Drafts.set_shape.Goals as goal

pub overflow_add-self : goal.overflow_add-self
overflow_add-self c =
    let read : IsReadAt _ c.args.self.now c.self.inside.others c.self.inside.freed c.args.ino c.index-place.result.now c.index_mut-draft.result.now c.requires.can.draft =
    record { view_is = c.self.view_is; counted = c.self.invariant; low = c.requires.number; is = c.requires.can.is; place_is = c.index-place.ensures; draft_is = c.index_mut-draft.ensures.value } in
    let few = others_small _ _ _ _ _ _ _ _ read in
    let now = c.others.ensures.most in omega arith

pub overflow_sub-self : goal.overflow_sub-self
overflow_sub-self c =
    let read : IsReadAt _ c.args.self.now c.self.inside.others c.self.inside.freed c.args.ino c.index-place.result.now c.index_mut-draft.result.now c.requires.can.draft =
    record { view_is = c.self.view_is; counted = c.self.invariant; low = c.requires.number; is = c.requires.can.is; place_is = c.index-place.ensures; draft_is = c.index_mut-draft.ensures.value } in
    let e = recounted _ _ _ _ _ _ _ _ read (with_shape c.index_mut-draft.result.now c.args.shape) c.others-others.result c.others.result c.others-others.ensures.value c.others.ensures.value in omega arith

pub overflow_add-self-2 : goal.overflow_add-self-2
overflow_add-self-2 c =
    let read : IsReadAt _ c.args.self.now c.self.inside.others c.self.inside.freed c.args.ino c.index-place.result.now c.index_mut-draft.result.now c.requires.can.draft =
    record { view_is = c.self.view_is; counted = c.self.invariant; low = c.requires.number; is = c.requires.can.is; place_is = c.index-place.ensures; draft_is = c.index_mut-draft.ensures.value } in
    let few = freed_small _ _ _ _ _ _ _ _ read in
    let one : c.freed_one.result ≤ 1 = subst (λ n. n ≤ 1) (sym c.freed_one.ensures) (one_most (is_freed (with_shape c.index_mut-draft.result.now c.args.shape))) in omega arith

pub overflow_sub-self-2 : goal.overflow_sub-self-2
overflow_sub-self-2 c =
    let read : IsReadAt _ c.args.self.now c.self.inside.others c.self.inside.freed c.args.ino c.index-place.result.now c.index_mut-draft.result.now c.requires.can.draft =
    record { view_is = c.self.view_is; counted = c.self.invariant; low = c.requires.number; is = c.requires.can.is; place_is = c.index-place.ensures; draft_is = c.index_mut-draft.ensures.value } in
    let e = refreed _ _ _ _ _ _ _ _ read (with_shape c.index_mut-draft.result.now c.args.shape) c.freed_one-freed.result c.freed_one.result c.freed_one-freed.ensures c.freed_one.ensures in omega arith

pub invariant_of-self : goal.invariant_of-self
invariant_of-self c =
    let read : IsReadAt _ c.args.self.now c.self.inside.others c.self.inside.freed c.args.ino c.index-place.result.now c.index_mut-draft.result.now c.requires.can.draft =
    record { view_is = c.self.view_is; counted = c.self.invariant; low = c.requires.number; is = c.requires.can.is; place_is = c.index-place.ensures; draft_is = c.index_mut-draft.ensures.value } in
    shaped_counted _ _ _ _ _ _ _ _ read c.args.shape c.requires.can c.others-others.result c.others.result c.freed_one-freed.result c.freed_one.result c.others-others.ensures.value c.others.ensures.value c.freed_one-freed.ensures c.freed_one.ensures

pub returns : goal.returns
returns c d is =
    let read : IsReadAt _ c.args.self.now c.self.inside.others c.self.inside.freed c.args.ino c.index-place.result.now c.index_mut-draft.result.now d =
    record { view_is = c.self.view_is; counted = c.self.invariant; low = c.requires.number; is = is; place_is = c.index-place.ensures; draft_is = c.index_mut-draft.ensures.value } in
    (shaped _ _ _ _ _ _ _ _ read c.args.shape c.requires.can).1
